-- The share of settled transactions (document 01, "One reading, whole"), rounded as request 05 says: "to nearest, a tie to the even figure".
-- Assumes nothing.
use Rattle.std.specs.Prelude.{◌%◌, ◌*◌, ◌+◌, ◌/◌, ℕ, eqb, ltb}
use Rattle.escrow.specs.Amounts.{is_pending}
use Rattle.settlement.specs.Books.{Status}
use Rattle.sums.specs.Sum.{sum_to}
use Rattle.sums.specs.Test.{flip, pick}

-- the even one of q and q + 1
abbrev pub even_of : ℕ → ℕ
even_of q = q + q % 2

-- n / d to the nearest whole number: down if the rest is below half of d, up if it is above, and at the half to the even one of the two
unfoldable pub nearest : ℕ → ℕ → ℕ
nearest n d = pick (ltb (n % d * 2) d) (n / d) (pick (ltb d (n % d * 2)) (n / d + 1) (even_of (n / d)))

-- s of t in thousandths, "1000 if t is 0"
unfoldable pub thousandths : ℕ → ℕ → ℕ
thousandths s t = pick (eqb t 0) 1000 (nearest (s * 1000) t)

-- how many of t transactions are "settled (paid or returned)"
abbrev pub settled_count : ℕ → (ℕ → Status) → ℕ
settled_count t st = sum_to t (λ x. flip (is_pending (st x)))

-- `share`: "settled transactions (paid or returned) in thousandths of t"
unfoldable pub share_of : ℕ → (ℕ → Status) → ℕ
share_of t st = thousandths (settled_count t st) t
