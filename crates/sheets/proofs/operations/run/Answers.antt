use mathlib.Core.Path.{refl}
use Rattle.sheets.proofs.OperationCells.{run_in, run_past}
use Rattle.sheets.proofs.operations.run.Goals as goal

pub returns-then-z-x : goal.returns-then-z-x
returns-then-z-x c = run_past _ _ _ _ _ c.if-z-x.true refl refl

pub returns : goal.returns
returns c = run_in _ _ _ _ _ _ _ _ c.if-z-x.false c.slot_of-body.ensures c.operations.ensures c.byte_at.ensures c.run_list.ensures
