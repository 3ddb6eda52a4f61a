use mathlib.Core.Path.{◌∙◌, ap}
use Rattle.settlement.specs.Tables.{code_of}
use Rattle.settlement.proofs.PayCells.{pay_it, pay_not}
use Rattle.settlement.proofs.settle.pay_one.Goals as goal

pub returns-then-not-is_contract : goal.returns-then-not-is_contract
returns-then-not-is_contract c = pay_it _ _ _ _ _ c.is_contract.ensures (c.if-not-is_contract.true) _ _ _ _ (c.into.ensures ∙ ap code_of c.payment_of.ensures)
    c.count_of-failed.ensures c.count_of-cited.ensures c.parts_of.ensures.0

pub returns-else-not-is_contract : goal.returns-else-not-is_contract
returns-else-not-is_contract c = pay_not _ _ _ _ _ c.is_contract.ensures (c.if-not-is_contract.false)
