-- What each clause of the claim on the share gives its reader. One law a clause: whoever loses a clause breaks its law.
-- Assumes nothing.
use Prim.Native.Nat.{◌%◌, ◌*◌, ◌+◌, ◌<◌, ◌≤◌, ℕ}
use mathlib.Core.Path.{◌≡◌}
use Rattle.escrow.specs.Claim.{Nearest, ShareRules}
use Rattle.escrow.specs.Share.{settled_count, thousandths}
use Rattle.settlement.specs.Books.{Status}

module _ {n d r : ℕ} (p : Nearest n d r) where
  -- with the next law: no other figure is nearer
  pub nearest_not_low : n * 2 ≤ r * d * 2 + d
  nearest_not_low = p.not_low

  pub nearest_not_high : r * d * 2 ≤ n * 2 + d
  nearest_not_high = p.not_high

  -- with the next law: of two that are equally near, the even one
  pub nearest_even_below : n * 2 ≡ r * d * 2 + d → r % 2 ≡ 0
  nearest_even_below = p.tie_below

  pub nearest_even_above : r * d * 2 ≡ n * 2 + d → r % 2 ≡ 0
  nearest_even_above = p.tie_above

module _ (p : ShareRules) where
  -- with the next law: that figure and no other
  pub share-near : (s t : ℕ) → 0 < t → Nearest (s * 1000) t (thousandths s t)
  share-near = p.near

  pub share-alone : (s t r : ℕ) → 0 < t → Nearest (s * 1000) t r → r ≡ thousandths s t
  share-alone = p.alone

  pub share_of_none : (t : ℕ) → 0 < t → thousandths 0 t ≡ 0
  share_of_none = p.none

  pub share_of_all : (t : ℕ) → thousandths t t ≡ 1000
  share_of_all = p.all

  pub share_of_an_empty-sheet : (s : ℕ) → thousandths s 0 ≡ 1000
  share_of_an_empty-sheet = p.empty

  -- with `share-counted`: no reading has more than 1000
  pub share_at_most : (s t : ℕ) → s ≤ t → thousandths s t ≤ 1000
  share_at_most = p.most

  pub share-rises : (s s' t : ℕ) → s ≤ s' → thousandths s t ≤ thousandths s' t
  share-rises = p.rises

  -- a share of open transactions need not be printed
  pub share_with_open : (s o : ℕ) → 0 < s + o → thousandths s (s + o) + thousandths o (s + o) ≡ 1000
  share_with_open = p.with_open

  -- with the next law: whoever reads 1000 or 0 knows how many
  pub share-only-all : (s t : ℕ) → s ≤ t → t < 2000 → thousandths s t ≡ 1000 → s ≡ t
  share-only-all = p.only-all

  pub share-only-none : (s t : ℕ) → 0 < t → t < 2000 → thousandths s t ≡ 0 → s ≡ 0
  share-only-none = p.only_none

  pub share-counted : (t : ℕ) (st : ℕ → Status) → settled_count t st ≤ t
  share-counted = p.counted
