use Rattle.closing.proofs.ClosingLaws.{taken, to_last}
use Rattle.closing.proofs.closing.take_settled.Goals as goal

pub shape_of-counts : goal.shape_of-counts
shape_of-counts c = (to_last c.settlements-txs.ensures c.accounts-amounts.ensures c.registers-cells.ensures c.share.ensures).counts-length

pub shape_of-table : goal.shape_of-table
shape_of-table c = (to_last c.settlements-txs.ensures c.accounts-amounts.ensures c.registers-cells.ensures c.share.ensures).table-length

pub shape_of-order : goal.shape_of-order
shape_of-order c = (to_last c.settlements-txs.ensures c.accounts-amounts.ensures c.registers-cells.ensures c.share.ensures).order-length

pub returns : goal.returns
returns c = rw c.unwrap_or.ensures (taken c.settlements-txs.ensures c.accounts-amounts.ensures c.registers-cells.ensures c.share.ensures c.requires)
