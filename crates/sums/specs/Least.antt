-- The least of a row of numbers.
-- Assumes nothing.
use Rattle.std.specs.Prelude.{min, suc, zero, ℕ}

-- the least of b and f 0 .. f (n - 1)
unfoldable pub least_from : ℕ → (ℕ → ℕ) → ℕ → ℕ
least_from b f zero = b
least_from b f (suc n) = min (least_from b f n) (f n)
