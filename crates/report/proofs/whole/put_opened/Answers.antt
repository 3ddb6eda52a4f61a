use mathlib.Core.Path.{refl, ◌∙◌}
use Rattle.replay.proofs.CourseLaws.{puts_whole}
use Rattle.report.proofs.TextLaws.{ample_readings, opened-ends, opened_closes}
use Rattle.report.proofs.whole.put_opened.Goals as goal

pub shape_of-out-then-done : goal.shape_of-out-then-done
shape_of-out-then-done c = c.out-2-1.given ∙ c.out-1.given

pub returns-then-done : goal.returns-then-done
returns-then-done c = opened-ends c.sizes-z.result c.sizes-z.ensures c.put_run-start.ensures c.put_blocks-done.ensures c.requires.1 c.if-done.true

pub put_readings-requires : goal.put_readings-requires
put_readings-requires c = (puts_whole c.put_blocks-done.ensures c.requires.0, ample_readings c.requires.1 _ _ _ _ _ refl c.ranks-1.given c.cites-1.given c.good-1.given c.counts-1.given c.table-1.given c.order-1.given)

pub shape_of-counts : goal.shape_of-counts
shape_of-counts c = c.counts-2-1.given ∙ c.counts-1.given

pub shape_of-table : goal.shape_of-table
shape_of-table c = c.table-2-1.given ∙ c.table-1.given

pub shape_of-order : goal.shape_of-order
shape_of-order c = c.order-2-1.given ∙ c.order-1.given

pub shape_of-out : goal.shape_of-out
shape_of-out c = c.out-3-1.given ∙ c.out-2-1.given ∙ c.out-1.given

pub returns : goal.returns
returns c = opened_closes c.sizes-z.result c.sizes-z.ensures c.put_run-start.ensures c.put_blocks-done.ensures c.requires.1 c.if-done.false c.put_readings.ensures
