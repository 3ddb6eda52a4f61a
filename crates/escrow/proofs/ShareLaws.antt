-- The share, case by case, as the code goes through it.
-- Assumes nothing.
use Prim.Native.Nat.{◌%◌, ◌*◌, ◌+◌, ◌/◌, ◌<◌, ◌≤◌, ℕ}
use borrow.Author.Tests.{eq-eqb, le-ltb, lt-ltb, ne_eqb}
use mathlib.Core.Logic.{◌≢◌}
use mathlib.Core.Path.{◌∙◌, ◌≡◌, ap, sym}
use native.Mathlib.Nat.{div-le_self, mod-lt}
use native.Mathlib.Omega.{arith}
use Rattle.escrow.specs.Share.{even_of, nearest, settled_count, share_of, thousandths}
use Rattle.settlement.specs.Books.{Status}
use Rattle.sums.proofs.TestLaws.{pick-false, pick_true}

module _ (n d : ℕ) where
  pub nearest_down : n % d * 2 < d → nearest n d ≡ n / d
  unfolding nearest
  nearest_down h = pick_true _ _ _ (lt-ltb _ _ h)

  pub nearest_up : d < n % d * 2 → nearest n d ≡ n / d + 1
  unfolding nearest
  nearest_up h = pick-false _ _ _ (le-ltb (n % d * 2) d (omega arith)) ∙ pick_true _ _ _ (lt-ltb _ _ h)

  pub nearest_tie : n % d * 2 ≡ d → nearest n d ≡ even_of (n / d)
  unfolding nearest
  nearest_tie h = pick-false _ _ _ (le-ltb (n % d * 2) d (omega arith)) ∙ pick-false _ _ _ (le-ltb d (n % d * 2) (omega arith))

pub thousandths-none : (s t : ℕ) → t ≡ 0 → thousandths s t ≡ 1000
unfolding thousandths
thousandths-none s t h = pick_true _ _ _ (eq-eqb t 0 h)

pub thousandths-some : (s t : ℕ) → (t ≡ 0 → ⊥) → thousandths s t ≡ nearest (s * 1000) t
unfolding thousandths
thousandths-some s t h = pick-false _ _ _ (ne_eqb t 0 h)

module _ (s t : ℕ) (some : t ≡ 0 → ⊥) where
  pub thousandths_down : s * 1000 % t * 2 < t → s * 1000 / t ≡ thousandths s t
  thousandths_down h = sym (thousandths-some s t some ∙ nearest_down (s * 1000) t h)

  pub thousandths_up : t < s * 1000 % t * 2 → s * 1000 / t + 1 ≡ thousandths s t
  thousandths_up h = sym (thousandths-some s t some ∙ nearest_up (s * 1000) t h)

  pub thousandths_tie : t ≤ s * 1000 % t * 2 → s * 1000 % t * 2 ≤ t → even_of (s * 1000 / t) ≡ thousandths s t
  thousandths_tie h k = sym (thousandths-some s t some ∙ nearest_tie (s * 1000) t (omega arith))

  -- the bounds that the products and sums need
  pub rest_below : s * 1000 % t < t
  rest_below = mod-lt (s * 1000) {m = t} (let n : t ≢ 0 = some in omega arith)

  pub figure-below : s * 1000 / t ≤ s * 1000
  figure-below = div-le_self (s * 1000) t

-- the share of as many as were counted
pub share_of_count : (t : ℕ) (st : ℕ → Status) (n : ℕ) → n ≡ settled_count t st → thousandths n t ≡ share_of t st
unfolding share_of
share_of_count t st n e = ap (λ (k : ℕ). thousandths k t) e
