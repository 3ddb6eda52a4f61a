-- What the engine's cells stand for: 128 ranks and 4096 citation places an instance. Total: a rank that is not there is 0, a citation 65535.
-- Assumes nothing.
use Rattle.std.specs.Prelude.{◌*◌, ◌+◌, ℕ, eqb, get_or, Bool, List}
use Rattle.ordering.specs.Table.{rank_in}
use Rattle.settlement.specs.View.{Rows, no_cite}

-- the outcome at place p of instance j's row: 1 is good
abbrev pub flag_in : List ℕ → ℕ → ℕ → Bool
flag_in good j p = eqb (get_or good (j * 4096 + p) 0) 1

-- the transaction cited there
abbrev pub cell_in : List ℕ → ℕ → ℕ → ℕ
cell_in cites j p = get_or cites (j * 4096 + p) no_cite

unfoldable pub rows_in : List ℕ → List ℕ → List ℕ → Rows
rows_in ranks cites good = record { rank = rank_in ranks; cell = cell_in cites; good = flag_in good }
