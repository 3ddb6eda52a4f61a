use mathlib.Core.Path.{sym, ◌∙◌}
use Rattle.replay.proofs.PutLaws.{turn_first, turn_end, turn-ends, turn-less, turn-next}
use Rattle.replay.proofs.blocks.put_blocks.Goals as goal

pub loop-offset-init : goal.loop-offset-init
loop-offset-init c = turn_first

pub shape_of-ranks-then-stops : goal.shape_of-ranks-then-stops
shape_of-ranks-then-stops c = c.ranks-1.given ∙ c.loop-offset.invariant.sized.ranks

pub shape_of-cuts-then-stops : goal.shape_of-cuts-then-stops
shape_of-cuts-then-stops c = c.cuts-1.given ∙ c.loop-offset.invariant.sized.cuts

pub shape_of-cites-then-stops : goal.shape_of-cites-then-stops
shape_of-cites-then-stops c = c.cites-1.given ∙ c.loop-offset.invariant.sized.cites

pub shape_of-good-then-stops : goal.shape_of-good-then-stops
shape_of-good-then-stops c = c.good-1.given ∙ c.loop-offset.invariant.sized.good

pub shape_of-counts-then-stops : goal.shape_of-counts-then-stops
shape_of-counts-then-stops c = c.counts-1.given ∙ c.loop-offset.invariant.sized.counts

pub shape_of-table-then-stops : goal.shape_of-table-then-stops
shape_of-table-then-stops c = c.table-1.given ∙ c.loop-offset.invariant.sized.table

pub shape_of-order-then-stops : goal.shape_of-order-then-stops
shape_of-order-then-stops c = c.order-1.given ∙ c.loop-offset.invariant.sized.order

pub shape_of-out-then-stops : goal.shape_of-out-then-stops
shape_of-out-then-stops c = c.out-1.given ∙ c.loop-offset.invariant.sized.text

pub returns-then-stops : goal.returns-then-stops
returns-then-stops c = turn-ends c.loop-offset.invariant c.loop-offset-test.true c.offer_frame-done.ensures c.put_answer-next.ensures c.next_frame-end.ensures (sym c.stops.ensures ∙ c.if-stops.true)

pub loop-offset-smaller : goal.loop-offset-smaller
loop-offset-smaller c = turn-less c.loop-offset.invariant c.loop-offset-test.true c.offer_frame-done.ensures c.put_answer-next.ensures c.next_frame-end.ensures (sym c.stops.ensures ∙ c.if-stops.false)

pub loop-offset-preserved : goal.loop-offset-preserved
loop-offset-preserved c = turn-next c.loop-offset.invariant c.loop-offset-test.true c.offer_frame-done.ensures c.put_answer-next.ensures c.next_frame-end.ensures (sym c.stops.ensures ∙ c.if-stops.false) (record { ranks = c.ranks-1.given; cuts = c.cuts-1.given; cites = c.cites-1.given; good = c.good-1.given; counts = c.counts-1.given; table = c.table-1.given; order = c.order-1.given; text = c.out-1.given })

pub shape_of-ranks : goal.shape_of-ranks
shape_of-ranks c = c.loop-offset.invariant.sized.ranks

pub shape_of-cuts : goal.shape_of-cuts
shape_of-cuts c = c.loop-offset.invariant.sized.cuts

pub shape_of-cites : goal.shape_of-cites
shape_of-cites c = c.loop-offset.invariant.sized.cites

pub shape_of-good : goal.shape_of-good
shape_of-good c = c.loop-offset.invariant.sized.good

pub shape_of-counts : goal.shape_of-counts
shape_of-counts c = c.loop-offset.invariant.sized.counts

pub shape_of-table : goal.shape_of-table
shape_of-table c = c.loop-offset.invariant.sized.table

pub shape_of-order : goal.shape_of-order
shape_of-order c = c.loop-offset.invariant.sized.order

pub shape_of-out : goal.shape_of-out
shape_of-out c = c.loop-offset.invariant.sized.text

pub returns : goal.returns
returns c = turn_end c.loop-offset.invariant c.loop-offset-test.false
