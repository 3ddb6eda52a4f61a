use Rattle.settlement.proofs.CountCells.{count-in, count_out}
use Rattle.settlement.proofs.counts.count_at.Goals as goal

pub returns-then-x-t : goal.returns-then-x-t
returns-then-x-t c = count-in _ _ _ _ _ _ _ c.cite_at-x.ensures _ _ c.good_at.ensures c.if-x-t.true c.count_one.ensures

pub returns-else-x-t : goal.returns-else-x-t
returns-else-x-t c = count_out _ c.args.good.now _ _ _ _ _ c.cite_at-x.ensures c.if-x-t.false
