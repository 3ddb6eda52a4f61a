use native.Mathlib.Omega.{arith}
use Rattle.sheets.proofs.PartCells.{parts_none, parts-past, parts_in, parts_fit}
use Rattle.sheets.proofs.parts.parts_of.Goals as goal

pub returns-then-z-eq0 : goal.returns-then-z-eq0
returns-then-z-eq0 c = (parts_none _ _ _ c.if-z-eq0.true, omega arith)

pub returns-then-z-x : goal.returns-then-z-x
returns-then-z-x c = (parts-past _ _ _ c.if-z-x.true, omega arith)

pub returns : goal.returns
returns c = let e = parts_in _ _ _ _ _ _ _ (omega (arith, c.if-z-eq0.false)) c.if-z-x.false c.slot_of-body.ensures c.homes.ensures c.debits.ensures c.byte_at.ensures in (e, parts_fit _ _ _ _ e)
