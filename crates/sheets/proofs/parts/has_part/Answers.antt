use Rattle.sheets.proofs.PartCells.{part_in, part_past}
use Rattle.sheets.proofs.parts.has_part.Goals as goal

pub returns-then-z-x : goal.returns-then-z-x
returns-then-z-x c = part_past _ _ _ _ c.if-z-x.true

pub returns : goal.returns
returns c = part_in _ _ _ _ _ _ _ _ c.if-z-x.false c.slot_of-body.ensures c.any_home.ensures c.debits.ensures c.byte_at.ensures
