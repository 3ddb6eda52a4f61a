-- What is reported of the full view, from a sheet and the instance logs (document 01, "One reading, whole").
-- Assumes nothing.
use Rattle.std.specs.Prelude.{ℕ}
use Rattle.escrow.specs.Outcome.{History, full_view, outcome, rows_of}
use Rattle.settlement.specs.Books.{Status}
use Rattle.settlement.specs.Settlement.{status}
use Rattle.settlement.specs.View.{Rows}
use Rattle.sheets.specs.Sheet.{Sheet}

-- the rows, each citation with its outcome
unfoldable pub rows_all : Sheet → History → Rows
rows_all S H = rows_of H (outcome S H)

-- `tx`: the settlement of transaction x in the full view
unfoldable pub status_all : Sheet → History → ℕ → Status
status_all S H = status S (rows_all S H) (full_view H)
