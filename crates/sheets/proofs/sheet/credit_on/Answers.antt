use native.Mathlib.Omega.{arith}
use Rattle.sheets.proofs.SheetCells.{credit-in, credit-past}
use Rattle.sheets.proofs.sheet.credit_on.Goals as goal

pub returns-then-z-x : goal.returns-then-z-x
returns-then-z-x c = (credit-past _ _ _ _ c.if-z-x.true, omega arith)

pub returns : goal.returns
returns c = (credit-in _ _ _ _ _ _ _ _ c.if-z-x.false c.slot_of-body.ensures c.entries_on.ensures.0 c.credits.ensures c.byte_at.ensures, c.entries_on.ensures.1)
