use Rattle.sheets.proofs.SheetCells.{kind-in, kind-past}
use Rattle.sheets.proofs.sheet.kind_of.Goals as goal

pub returns-then-x-z : goal.returns-then-x-z
returns-then-x-z c = kind-in _ _ _ _ c.slot_of.ensures c.if-x-z.true _ c.byte_at.ensures

pub returns-else-x-z : goal.returns-else-x-z
returns-else-x-z c = kind-past _ _ _ c.if-x-z.false
