-- Lists in bytes: balances, entries, operations, cut entries and citations stand one after the other, each as wide as the next.
-- Assumes nothing.
use Rattle.std.specs.Prelude.{suc, zero, ℕ, get_or, length, List, [], ◌++◌}

-- g 0, .., g (n - 1), joined
unfoldable pub rows_to : ℕ → (ℕ → List ℕ) → List ℕ
rows_to zero g = []
rows_to (suc n) g = rows_to n g ++ g n

-- the bytes of a list whose elements are written by enc; none is what stands past its end, and is never written
unfoldable pub list_bytes : {A : Type 0} → (A → List ℕ) → A → List A → List ℕ
list_bytes enc none l = rows_to (length l) (λ k. enc (get_or l k none))
