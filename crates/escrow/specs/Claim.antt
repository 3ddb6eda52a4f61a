-- What the share is, said without a division: request 05, "The result is settled for every pair of counts".
-- Assumes nothing.
use Rattle.std.specs.Prelude.{◌%◌, ◌*◌, ◌+◌, ◌<◌, ◌≤◌, ℕ, ◌≡◌}
use Rattle.escrow.specs.Share.{settled_count, thousandths}
use Rattle.settlement.specs.Books.{Status}

-- r is n / d "to nearest, a tie to the even figure": r * d is at most half of d from n, and r is even where it is just that half. Doubled, and as sums
pub record Nearest (n d r : ℕ) : Type 0 where
  pub not_low : n * 2 ≤ r * d * 2 + d
  pub not_high : r * d * 2 ≤ n * 2 + d
  pub tie_below : n * 2 ≡ r * d * 2 + d → r % 2 ≡ 0
  pub tie_above : r * d * 2 ≡ n * 2 + d → r % 2 ≡ 0

-- of all numbers s and t
pub record ShareRules : Type 0 where
  -- s of t in thousandths: that figure is nearest, and no other
  pub near : (s t : ℕ) → 0 < t → Nearest (s * 1000) t (thousandths s t)
  pub alone : (s t r : ℕ) → 0 < t → Nearest (s * 1000) t r → r ≡ thousandths s t
  -- "None of 16 prints 0, all print 1000, and t 0 still prints 1000"
  pub none : (t : ℕ) → 0 < t → thousandths 0 t ≡ 0
  pub all : (t : ℕ) → thousandths t t ≡ 1000
  pub empty : (s : ℕ) → thousandths s 0 ≡ 1000
  pub most : (s t : ℕ) → s ≤ t → thousandths s t ≤ 1000
  -- with more of them settled it is no lower
  pub rises : (s s' t : ℕ) → s ≤ s' → thousandths s t ≤ thousandths s' t
  -- what is settled and what is open make 1000, at a tie, too
  pub with_open : (s o : ℕ) → 0 < s + o → thousandths s (s + o) + thousandths o (s + o) ≡ 1000
  -- below 2,000 transactions, and so for every sheet, 1000 is printed only for all of them, and 0 only for none
  pub only-all : (s t : ℕ) → s ≤ t → t < 2000 → thousandths s t ≡ 1000 → s ≡ t
  pub only_none : (s t : ℕ) → 0 < t → t < 2000 → thousandths s t ≡ 0 → s ≡ 0
  -- of t transactions at most t are settled, whatever became of them
  pub counted : (t : ℕ) (st : ℕ → Status) → settled_count t st ≤ t
