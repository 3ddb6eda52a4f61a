-- Laws of decimals.
-- Assumes nothing.
use Prim.Native.Nat.{◌%◌, ◌*◌, ◌+◌, ◌-◌, ◌/◌, ◌<◌, ◌^◌, ◌≤◌, suc, zero, ℕ}
use borrow.Author.Tests.{le-ltb, lt-ltb}
use lib.ListN.{length, length-append}
use mathlib.Core.List.{List, [], ◌++◌, ◌∷◌}
use mathlib.Core.Path.{◌∙◌, ◌≡◌, ap, refl, sym}
use native.Mathlib.Decide.{dec_lt}
use native.Mathlib.Nat.{pow-suc}
use native.Mathlib.Omega.{arith}
use Rattle.text.proofs.WroteLaws.{wrote_then}
use Rattle.text.specs.Text.{decimal, decimal_by, digit}
use Rattle.text.specs.Wrote.{Wrote}

by_one : (f n : ℕ) → n < 10 → decimal_by f n ≡ digit n
unfolding decimal_by
by_one zero n h = ap digit (omega arith)
by_one (suc f) n h = rw (lt-ltb n 10 h) refl

by_more : (f n : ℕ) → 10 ≤ n → decimal_by (suc f) n ≡ decimal_by f (n / 10) ++ digit (n % 10)
unfolding decimal_by
by_more f n h = rw (le-ltb n 10 h) refl

-- more fuel changes nothing
by_same : (f g n : ℕ) → n ≤ f → n ≤ g → decimal_by f n ≡ decimal_by g n
by_same zero g n h k = by_one zero n (omega arith) ∙ sym (by_one g n (omega arith))
by_same (suc f) zero n h k = by_one (suc f) n (omega arith) ∙ sym (by_one zero n (omega arith))
by_same (suc f) (suc g) n h k = elim (dec_lt n 10) [
  | yes s ↦ by_one (suc f) n s ∙ sym (by_one (suc g) n s)
  | no s ↦ by_more f n (omega arith) ∙ rw (by_same f g (n / 10) (omega arith) (omega arith)) (sym (by_more g n (omega arith)))
]

pub decimal-one : (n : ℕ) → n < 10 → decimal n ≡ digit n
unfolding decimal
decimal-one n h = by_one n n h

pub decimal-more : (n : ℕ) → 10 ≤ n → decimal n ≡ decimal (n / 10) ++ digit (n % 10)
unfolding decimal
decimal-more zero h = absurd (omega arith)
decimal-more (suc n) h = by_more n (suc n) h ∙ rw (by_same n (suc n / 10) (suc n / 10) (omega arith) (omega arith)) refl

pub wrote_one : {l l' : List ℕ} {at r : ℕ} (n : ℕ) → n < 10 → Wrote l at (digit n) l' r → Wrote l at (decimal n) l' r
wrote_one n h w = rw (decimal-one n h) w

pub wrote_more : {l l1 l2 : List ℕ} {at p q : ℕ} (n : ℕ) → 10 ≤ n → Wrote l at (decimal (n / 10)) l1 p → Wrote l1 p (digit (n % 10)) l2 q → Wrote l at (decimal n) l2 q
wrote_more n h w v = rw (decimal-more n h) (wrote_then w v)

-- a number below 10 ^ (k + 1) has at most k + 1 digits
pub decimal-short : (k n : ℕ) → n < 10 ^ suc k → length (decimal n) ≤ suc k
decimal-short zero n h = rw (decimal-one n h) (omega arith)
decimal-short (suc k) n h = elim (dec_lt n 10) [
  | yes s ↦ rw (decimal-one n s) (omega arith)
  | no s ↦
      let p = pow-suc 10 (suc k) in
      let d = decimal-short k (n / 10) (omega (arith, p)) in
      rw (decimal-more n (omega arith)) (simp length-append (omega arith))
]

-- ---- read back, a decimal is the number: no two numbers have one text

-- the number that digits stand for, behind others that stand for n
unfoldable pub value_from : ℕ → List ℕ → ℕ
value_from n [] = n
value_from n (d ∷ l) = value_from (n * 10 + (d - 48)) l

value-append : (n : ℕ) (l l' : List ℕ) → value_from n (l ++ l') ≡ value_from (value_from n l) l'
unfolding value_from
value-append n [] l' = refl
value-append n (x ∷ l) l' = value-append (n * 10 + (x - 48)) l l'

value-digit : (n d : ℕ) → value_from n (digit d) ≡ n * 10 + d
unfolding value_from
value-digit n d = omega arith

value_by : (f n : ℕ) → n ≤ f → value_from 0 (decimal_by f n) ≡ n
value_by zero n h = rw (by_one zero n (omega arith), value-digit) (omega arith)
value_by (suc f) n h = elim (dec_lt n 10) [
  | yes s ↦ rw (by_one (suc f) n s, value-digit) (omega arith)
  | no s ↦ rw (by_more f n (omega arith), value-append, value_by f (n / 10) (omega arith), value-digit) (omega arith)
]

pub value-decimal : (n : ℕ) → value_from 0 (decimal n) ≡ n
unfolding decimal
value-decimal n = value_by n n (omega arith)

pub decimal_injective : (a b : ℕ) → decimal a ≡ decimal b → a ≡ b
decimal_injective a b e = sym (value-decimal a) ∙ ap (value_from 0) e ∙ value-decimal b
