use native.Mathlib.Omega.{arith}
use Rattle.sheets.proofs.SheetCells.{entry_hit, entry_miss}
use Rattle.sheets.proofs.sheet.entry_on.Goals as goal

pub returns-then-account_at-k : goal.returns-then-account_at-k
returns-then-account_at-k c = (entry_hit _ _ _ _ _ c.account_at.ensures c.if-account_at-k.true c.amount_at.ensures, omega arith)

pub returns-else-account_at-k : goal.returns-else-account_at-k
returns-else-account_at-k c = (entry_miss _ _ _ _ c.account_at.ensures c.if-account_at-k.false, omega arith)
