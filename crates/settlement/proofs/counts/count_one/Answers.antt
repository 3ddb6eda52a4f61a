use Rattle.settlement.proofs.CountCells.{counted_one}
use Rattle.settlement.proofs.counts.count_one.Goals as goal

pub returns : goal.returns
returns c = counted_one _ _ _ _ _ c.args.good c.from.ensures c.add_at.ensures c.add_at-2.ensures
