use native.Mathlib.Omega.{arith}
use Rattle.sheets.proofs.SheetCells.{balance-in, balance-past}
use Rattle.sheets.proofs.sheet.balance_at.Goals as goal

pub returns-then-z-k : goal.returns-then-z-k
returns-then-z-k c = (balance-past _ _ _ c.if-z-k.true, omega arith)

pub returns : goal.returns
returns c = (balance-in _ _ _ _ _ c.if-z-k.false c.u64_at.ensures c.min.ensures, omega (arith, c.min.ensures))
