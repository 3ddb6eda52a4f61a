use mathlib.Core.Path.{◌∙◌, sym}
use Rattle.replay.specs.Inner.{stops_at}
use Rattle.sums.proofs.TestLaws.{pick-false, pick_true}
use Rattle.replay.proofs.answers.stops.Goals as goal

pub returns-then-ends_output : goal.returns-then-ends_output
unfolding stops_at
returns-then-ends_output c = sym (pick_true _ _ _ (sym c.ends_output.ensures ∙ c.if-ends_output.true))

pub returns : goal.returns
unfolding stops_at
returns c = sym (pick-false _ _ _ (sym c.ends_output.ensures ∙ c.if-ends_output.false))
