-- What the engine's cells stand for, where a citation is judged: 2048 cut entries an instance, beside the ranks and citation places that a settlement reads.
-- Assumes nothing.
use Rattle.std.specs.Prelude.{◌*◌, ◌+◌, ℕ, get_or, Bool, List, []}
use Rattle.escrow.specs.Amounts.{covered_by, free_by, held_by}
use Rattle.escrow.specs.Outcome.{History}
use Rattle.ordering.specs.Table.{count_in, rank_in}
use Rattle.settlement.specs.Cells.{cell_in, rows_in}
use Rattle.settlement.specs.Tables.{status_in}
use Rattle.sheets.specs.Parts.{home}
use Rattle.sheets.specs.Sheet.{sheet_in}
use Rattle.sheets.specs.declared.sheet.Sizes.{Sizes}

-- entry e of the cut of block n of instance i; 0 where there is none
abbrev pub cut_in : List ℕ → ℕ → ℕ → ℕ → ℕ
cut_in cuts i n e = get_or cuts ((i * 128 + n) * 16 + e) 0

-- the instance logs in their cells; heights are those that count: ordering's usable ones
unfoldable pub history_in : (ℕ → ℕ) → List ℕ → List ℕ → List ℕ → History
history_in heights ranks cuts cites = record { height = heights; rank = rank_in ranks; entry = cut_in cuts; cell = cell_in cites }

-- ---- amounts by the statuses that stand in a table. No amount looks at ranks, so none are given.
-- Where the table holds the view's statuses they are the rules' amounts: proofs/AmountCells, `free-in`, `held-in`, `good-in`

unfoldable pub free_in : List ℕ → Sizes → List ℕ → List ℕ → List ℕ → List ℕ → ℕ → ℕ
free_in b z cites good view table k = free_by (sheet_in b z) (rows_in [] cites good) (status_in z table) (count_in view (home (sheet_in b z) k)) k

unfoldable pub held_in : List ℕ → Sizes → List ℕ → List ℕ → List ℕ → List ℕ → ℕ → ℕ
held_in b z cites good view table k = held_by (sheet_in b z) (rows_in [] cites good) (status_in z table) (count_in view (home (sheet_in b z) k)) k

-- whether the part of x in instance j is good by these amounts
unfoldable pub good_in : List ℕ → Sizes → List ℕ → List ℕ → List ℕ → List ℕ → ℕ → ℕ → Bool
good_in b z cites good view table j x = covered_by (sheet_in b z) (free_in b z cites good view table) j x
