use mathlib.Core.Path.{◌∙◌, sym}
use Rattle.sums.proofs.TestLaws.{pick_true, pick-false}
use Rattle.rugxeni.proofs.numbers.keep_ledger.Goals as goal

pub returns-then-taken : goal.returns-then-taken
returns-then-taken c = c.write_ledger.ensures ∙ sym (pick_true _ _ _ c.if-taken.true)

pub returns-else-taken : goal.returns-else-taken
returns-else-taken c = sym (pick-false _ _ _ c.if-taken.false)
