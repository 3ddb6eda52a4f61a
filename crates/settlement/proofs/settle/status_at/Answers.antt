use Rattle.settlement.proofs.StatusCells.{code-in, code-past, status-in, status-past}
use Rattle.settlement.proofs.settle.status_at.Goals as goal

pub returns-then-x-z : goal.returns-then-x-z
returns-then-x-z c = (code-in _ c.args.table.now _ _ c.if-x-z.true c.byte_at.ensures, status-in _ _ _ _ c.if-x-z.true c.byte_at.ensures)

pub returns-else-x-z : goal.returns-else-x-z
returns-else-x-z c = (code-past _ c.args.table.now _ c.if-x-z.false, status-past _ _ _ c.if-x-z.false)
