use mathlib.Core.Path.{◌∙◌, sym}
use native.Mathlib.Omega.{arith}
use Rattle.sums.proofs.TestLaws.{given_false, given_true}
use Rattle.escrow.proofs.amounts.credit_if.Goals as goal

pub returns-then-is_paid : goal.returns-then-is_paid
returns-then-is_paid c = (c.credit_on.ensures.0 ∙ sym (given_true _ _ (sym c.is_paid.ensures ∙ c.if-is_paid.true)), c.credit_on.ensures.1)

pub returns-else-is_paid : goal.returns-else-is_paid
returns-else-is_paid c = (sym (given_false _ _ (sym c.is_paid.ensures ∙ c.if-is_paid.false)), omega arith)
