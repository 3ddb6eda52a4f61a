-- The share is the nearest thousandth, a tie to the even one, and no other figure is; what follows of it (`share_rules`).
-- Assumes nothing.
use Prim.Native.Nat.{◌%◌, ◌*◌, ◌+◌, ◌-◌, ◌/◌, ◌<◌, ◌≤◌, ℕ}
use mathlib.Core.Path.{◌∙◌, ◌≡◌, ap, refl, sym}
use native.Mathlib.Decide.{dec_lt, ℕ_discrete}
use native.Mathlib.Nat.{add-mul, div-add-mod', mod-lt, mul_comm, mul-le-mul_right, one-mul, zero-mul}
use native.Mathlib.Omega.{arith}
use Rattle.escrow.proofs.ShareLaws.{nearest_down, nearest_tie, nearest_up, thousandths-none, thousandths-some}
use Rattle.escrow.specs.Amounts.{is_pending}
use Rattle.escrow.specs.Claim.{Nearest, ShareRules}
use Rattle.escrow.specs.Share.{even_of, nearest, settled_count, thousandths}
use Rattle.settlement.specs.Books.{Status}
use Rattle.sums.proofs.LoopLaws.{sum_most}
use Rattle.sums.proofs.TestLaws.{flip-le}
use Rattle.sums.specs.Test.{flip}

next : (r d : ℕ) → r * d + d ≡ (r + 1) * d
next r d = sym (add-mul r 1 d ∙ ap (λ (x : ℕ). r * d + x) (one-mul d))

-- ---- what `nearest` finds is nearest

module _ (n d : ℕ) where
  is : (r k : ℕ) → r ≡ k → Nearest n d k → Nearest n d r
  is r k e N = rw e N

  whole : n / d * d + n % d ≡ n
  whole = div-add-mod' n d

  low : 0 < d → n % d * 2 ≤ d → (n % d * 2 ≡ d → n / d % 2 ≡ 0) → Nearest n d (n / d)
  low p h e = record {
    not_low = omega (arith, whole);
    not_high = omega (arith, whole);
    tie_below = λ q. e (omega (arith, whole));
    tie_above = λ q. absurd (omega (arith, whole));
  }

  high : 0 < d → d ≤ n % d * 2 → (n % d * 2 ≡ d → (n / d + 1) % 2 ≡ 0) → Nearest n d (n / d + 1)
  high p h e = record {
    not_low = omega (arith, whole, next (n / d) d, mod-lt n p);
    not_high = omega (arith, whole, next (n / d) d);
    tie_below = λ q. absurd (omega (arith, whole, next (n / d) d, mod-lt n p));
    tie_above = λ q. e (omega (arith, whole, next (n / d) d));
  }

  even : 0 < d → n % d * 2 ≡ d → Dec (n / d % 2 ≡ 0) → Nearest n d (even_of (n / d))
  even p h (yes e) = is _ (n / d) (omega arith) (low p (omega arith) (λ q. e))
  even p h (no e) =
      let o : n / d % 2 ≡ 1 = omega (arith, mod-lt (n / d) {m = 2} (omega arith)) in
      is _ (n / d + 1) (omega arith) (high p (omega arith) (λ q. omega arith))

  pub nearest_is : 0 < d → Nearest n d (nearest n d)
  nearest_is p = go (dec_lt (n % d * 2) d) (dec_lt d (n % d * 2))
    where
      go : Dec (n % d * 2 < d) → Dec (d < n % d * 2) → Nearest n d (nearest n d)
      go (yes h) k = is _ _ (nearest_down n d h) (low p (omega arith) (λ q. absurd (omega arith)))
      go (no h) (yes k) = is _ _ (nearest_up n d k) (high p (omega arith) (λ q. absurd (omega arith)))
      go (no h) (no k) = let e : n % d * 2 ≡ d = omega arith in is _ _ (nearest_tie n d e) (even p e (ℕ_discrete (n / d % 2) 0))

-- ---- of a larger number it is no smaller, so that there is one

module _ (d : ℕ) (some : 0 < d) where
  more : (r k : ℕ) → r < k → r * d + d ≤ k * d
  more r k l = let a : (r + 1) * d ≤ k * d = mul-le-mul_right d (let q : r + 1 ≤ k = omega arith in q) in omega (arith, next r d)

  -- with k above r both are at a tie, one step apart, and so not both even
  no_fall : (n n' r k : ℕ) → n ≤ n' → Nearest n d k → Nearest n' d r → r < k → ⊥
  no_fall n n' r k h K R l = elim (dec_lt (r + 1) k) [
    | yes f ↦ omega (arith, R.not_low, K.not_high, more (r + 1) k f, next r d)
    | no f ↦
        let a = more r k l in
        let u : r % 2 ≡ 0 = R.tie_below (omega (arith, R.not_low, K.not_high)) in
        let v : k % 2 ≡ 0 = K.tie_above (omega (arith, R.not_low, K.not_high)) in
        omega arith
  ]

  pub nearest-rises : (n n' r k : ℕ) → n ≤ n' → Nearest n d k → Nearest n' d r → k ≤ r
  nearest-rises n n' r k h K R = elim (dec_lt r k) [ yes l ↦ absurd (no_fall n n' r k h K R l) | no l ↦ omega arith ]

-- ---- thousandths

near : (s t : ℕ) → 0 < t → Nearest (s * 1000) t (thousandths s t)
near s t p = rw (thousandths-some s t (λ e. omega arith)) (nearest_is (s * 1000) t p)

alone : (s t r : ℕ) → 0 < t → Nearest (s * 1000) t r → r ≡ thousandths s t
alone s t r p N =
    let n = s * 1000 in
    omega (arith, nearest-rises t p n n (thousandths s t) r (omega arith) N (near s t p), nearest-rises t p n n r (thousandths s t) (omega arith) (near s t p) N)

-- a whole number of thousandths is itself
exact : (s t r : ℕ) → 0 < t → r * t ≡ s * 1000 → thousandths s t ≡ r
exact s t r p e =
    sym (alone s t r p (record {
      not_low = omega arith;
      not_high = omega arith;
      tie_below = λ q. absurd (omega arith);
      tie_above = λ q. absurd (omega arith);
    }))

all_are : (t : ℕ) → thousandths t t ≡ 1000
all_are t = elim (dec_lt 0 t) [ yes p ↦ exact t t 1000 p (mul_comm 1000 t) | no p ↦ thousandths-none t t (omega arith) ]

rises : (s s' t : ℕ) → s ≤ s' → thousandths s t ≤ thousandths s' t
rises s s' t h = elim (dec_lt 0 t) [
  | yes p ↦ nearest-rises t p (s * 1000) (s' * 1000) (thousandths s' t) (thousandths s t) (omega arith) (near s t p) (near s' t p)
  | no p ↦ omega (arith, thousandths-none s t (omega arith), thousandths-none s' t (omega arith))
]

most : (s t : ℕ) → s ≤ t → thousandths s t ≤ 1000
most s t h = omega (arith, rises s t t h, all_are t)

-- 1000 less the one is nearest for the other, and even where the one is
with_open : (s o : ℕ) → 0 < s + o → thousandths s (s + o) + thousandths o (s + o) ≡ 1000
with_open s o p =
    let t = s + o in
    let r = thousandths s t in
    let N = near s t p in
    let low : r ≤ 1000 = most s t (omega arith) in
    let whole : (1000 - r) * t + r * t ≡ 1000 * t = sym (add-mul (1000 - r) r t) ∙ ap (λ (x : ℕ). x * t) (let e : 1000 - r + r ≡ 1000 = omega arith in e) in
    let rest : Nearest (o * 1000) t (1000 - r) = record {
      not_low = omega (arith, whole, N.not_high);
      not_high = omega (arith, whole, N.not_low);
      tie_below = λ q. let e : r % 2 ≡ 0 = N.tie_above (omega (arith, whole)) in omega arith;
      tie_above = λ q. let e : r % 2 ≡ 0 = N.tie_below (omega (arith, whole)) in omega arith;
    } in
    omega (arith, alone o t (1000 - r) p rest)

only-all : (s t : ℕ) → s ≤ t → t < 2000 → thousandths s t ≡ 1000 → s ≡ t
only-all s t h l e = elim (dec_lt s t) [
  | yes k ↦ absurd (omega (arith, (near s t (omega arith)).not_high, ap (λ (x : ℕ). x * t) e))
  | no k ↦ omega arith
]

only_none : (s t : ℕ) → 0 < t → t < 2000 → thousandths s t ≡ 0 → s ≡ 0
only_none s t p l e = omega (arith, (near s t p).not_low, ap (λ (x : ℕ). x * t) e, zero-mul t)

-- ---- the count

counted : (t : ℕ) (st : ℕ → Status) → settled_count t st ≤ t
counted t st = omega (arith, sum_most t 1 (λ x. flip (is_pending (st x))) (λ x l. flip-le (is_pending (st x))))

pub share_rules : ShareRules
share_rules = record {
  near = near;
  alone = alone;
  none = λ t p. exact 0 t 0 p (zero-mul t ∙ sym (zero-mul 1000));
  all = all_are;
  empty = λ s. thousandths-none s 0 refl;
  most = most;
  rises = rises;
  with_open = with_open;
  only-all = only-all;
  only_none = only_none;
  counted = counted;
}
