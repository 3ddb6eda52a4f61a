-- Numbers in bytes, both ways: one definition over the width for reading and one for writing.
-- Assumes nothing.
use Rattle.std.specs.Prelude.{◌%◌, ◌*◌, ◌+◌, ◌/◌, ◌<◌, suc, zero, ℕ, get_or, List, [], ◌∷◌}
use Rattle.std.proofs.lemmas.List.Edits.{sets}

-- "bytes are little-endian": the number in the n bytes from place at on. A byte past the end of the list counts as 0, so every reader is total
unfoldable pub le : ℕ → List ℕ → ℕ → ℕ
le zero s at = 0
le (suc n) s at = get_or s at 0 + 256 * le n s (suc at)

-- the n lowest bytes of a number, the lowest first
unfoldable pub le_bytes : ℕ → ℕ → List ℕ
le_bytes zero v = []
le_bytes (suc n) v = v % 256 ∷ le_bytes n (v / 256)

-- each element is a byte
abbrev pub AreBytes : List ℕ → Type 0
AreBytes s = (k : ℕ) → get_or s k 0 < 256

-- a list with the number v of n bytes stored from place at on; what would lie past the end is not stored
unfoldable pub store_number : ℕ → List ℕ → ℕ → ℕ → List ℕ
store_number n l at v = sets l at (le_bytes n v)
