-- The working tables that a settlement of a view fills, as its contract names them.
-- Statuses: one cell a transaction. Counts: two cells a transaction.
-- Assumes nothing.
use Rattle.std.specs.Prelude.{◌%◌, ◌*◌, ◌/◌, ℕ, eqb, ltb, get_or, List, map, ◌≡◌}
use Rattle.ordering.specs.Table.{block_id}
use Rattle.settlement.specs.Books.{Status, paid, pending, returned}
use Rattle.settlement.specs.Settlement.{cited, failed, status}
use Rattle.settlement.specs.View.{Rows, View, view_log}
use Rattle.sheets.specs.Sheet.{Sheet}
use Rattle.sums.specs.Seq.{fill, written}
use Rattle.sums.specs.Test.{pick}
use Rattle.sheets.specs.declared.sheet.Sizes.{Sizes}

-- ---- statuses

-- the number that stands for a status
abbrev pub code_of : Status → ℕ
code_of pending = 0
code_of paid = 1
code_of returned = 2

-- the status that a cell stands for; a number that no settlement writes reads as returned
unfoldable pub status_of : ℕ → Status
status_of n = pick (eqb n 0) pending (pick (eqb n 1) paid returned)

-- the number of transaction x, and its status, in a table
unfoldable pub code_in : Sizes → List ℕ → ℕ → ℕ
code_in z table x = pick (ltb x z.t) (get_or table x 0) 0

unfoldable pub status_in : Sizes → List ℕ → ℕ → Status
status_in z table x = pick (ltb x z.t) (status_of (get_or table x 0)) pending

-- ---- counts of a view: cell 2 x holds the citations of x in it, cell 2 x + 1 those of them that failed

unfoldable pub tally_at : Sheet → Rows → View → ℕ → ℕ
tally_at S R v i = pick (eqb (i % 2) 0) (cited S R v (i / 2)) (failed S R v (i / 2))

-- ---- a settled view

-- its whole blocks
abbrev pub whole_of : View → View
whole_of v j = v j / 32

-- the three buffers that a settlement fills
pub record Buffers : Type 0 where
  pub counts : List ℕ
  pub table : List ℕ
  pub order : List ℕ

abbrev pub buffers : List ℕ → List ℕ → List ℕ → Buffers
buffers c t o = record { counts = c; table = t; order = o }

-- The view's settlement, as it stands in the buffers. What it does not fill is as it was: the counts from 2 t on, the table from t on, and the order past the log.
-- The rules fix the table and the order; the counts, which they leave free, are named with what holds of them: the view's tallies
pub record Settled (z : Sizes) (S : Sheet) (R : Rows) (v : View) (before after : Buffers) : Type 0 where
  pub statuses : status_in z after.table ≡ status S R v
  pub tabled : after.table ≡ written before.table 0 z.t (λ x. code_of (status S R v x))
  pub counted : after.counts ≡ written before.counts 0 (2 * z.t) (tally_at S R v)
  pub logged : after.order ≡ fill (map block_id (view_log S R v)) before.order
