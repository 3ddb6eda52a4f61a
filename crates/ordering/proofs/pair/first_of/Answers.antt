use mathlib.Core.Path.{◌∙◌, sym}
use Rattle.ordering.specs.Pairs.{first_of}
use Rattle.sums.proofs.TestLaws.{pick-false, pick_true}
use Rattle.ordering.proofs.pair.first_of.Goals as goal

pub returns-then-comes_first : goal.returns-then-comes_first
unfolding first_of
returns-then-comes_first c = sym (pick_true _ _ _ (sym c.comes_first.ensures ∙ c.if-comes_first.true))

pub returns-else-comes_first : goal.returns-else-comes_first
unfolding first_of
returns-else-comes_first c = sym (pick-false _ _ _ (sym c.comes_first.ensures ∙ c.if-comes_first.false))
