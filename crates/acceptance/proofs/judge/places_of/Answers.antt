use Rattle.acceptance.proofs.Views.{view_other, view_own}
use Rattle.ordering.specs.Table.{count_in}
use Rattle.acceptance.proofs.judge.places_of.Goals as goal

pub returns-then-j-i : goal.returns-then-j-i
returns-then-j-i c = view_own (count_in c.args.cut) _ _ _ c.if-j-i.true

pub returns-else-j-i : goal.returns-else-j-i
returns-else-j-i c = view_other (count_in c.args.cut) _ _ _ c.if-j-i.false _ c.count_at.ensures
