-- An answer to a question, and sums that stay within 64 bits.
-- Assumes nothing.
use Rattle.std.specs.Prelude.{◌+◌, min, ℕ, Bool, false, true}

-- the answer is yes where P holds, and no where it does not
abbrev pub Tells : Bool → Type 0 → Type 0
Tells true P = P
Tells false P = P → ⊥

-- a + b, or the greatest number of 64 bits where that is less
abbrev pub added : ℕ → ℕ → ℕ
added a b = min (a + b) 18446744073709551615
