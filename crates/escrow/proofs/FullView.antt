-- Names for what the laws say of the full view: its log, and the amounts of each account.
-- Assumes nothing.
use Prim.Native.Nat.{ℕ}
use mathlib.Core.List.{List}
use Rattle.escrow.specs.Amounts.{free, held}
use Rattle.escrow.specs.Outcome.{History, full_view}
use Rattle.escrow.specs.Report.{rows_all}
use Rattle.ordering.specs.Order.{Ref}
use Rattle.settlement.specs.View.{view_log}
use Rattle.sheets.specs.Sheet.{Sheet}

unfoldable pub log_all : Sheet → History → List Ref
log_all S H = view_log S (rows_all S H) (full_view H)

unfoldable pub free_all : Sheet → History → ℕ → ℕ
free_all S H = free S (rows_all S H) (full_view H)

unfoldable pub held_all : Sheet → History → ℕ → ℕ
held_all S H = held S (rows_all S H) (full_view H)
