-- Payments: the number that the counts give to one, and the table after all of them.
-- Assumes nothing.
use Prim.Native.Nat.{◌*◌, ◌+◌, ◌<◌, ◌≤◌, suc, zero, ℕ}
use borrow.Author.Tests.{eq-eqb, eqb-false, eqb-true, ne_eqb}
use lib.Dec.{eqb}
use lib.ListN.{get_or, length, length-set, set}
use lib.Seq.{get_or-set_other, get_or-set_same}
use mathlib.Core.Bool.{Bool, false, true}
use mathlib.Core.List.{List}
use mathlib.Core.Logic.{◌≢◌}
use mathlib.Core.Path.{◌∙◌, ◌≡◌, ap, ap₂, refl, sym}
use native.Mathlib.Nat.{not-suc-le-zero}
use native.Mathlib.Omega.{arith}
use Rattle.settlement.specs.Books.{paid, pending, returned}
use Rattle.settlement.specs.Inner.{pay_at, pay_to, payment_of}
use Rattle.settlement.specs.Tables.{code_of}
use Rattle.sheets.specs.Parts.{is_contract, parts}
use Rattle.sheets.specs.Sheet.{Sheet}
use Rattle.sums.proofs.LoopLaws.{fold_length}
use Rattle.sums.proofs.TestLaws.{by-pick, pick-false, pick_true}
use Rattle.sums.specs.Fold.{fold_to}
use Rattle.sums.specs.Test.{pick}

module _ (f c p : ℕ) where
  pub pay-returned : (f ≡ 0 → ⊥) → returned ≡ payment_of f c p
  unfolding payment_of
  pay-returned h = sym (pick-false _ _ _ (ne_eqb f 0 h))

  pub pay-paid : f ≡ 0 → c ≡ p → paid ≡ payment_of f c p
  unfolding payment_of
  pay-paid h e = sym (pick_true _ _ _ (eq-eqb f 0 h) ∙ pick_true _ _ _ (eq-eqb c p e))

  pub pay_open : f ≡ 0 → (c ≡ p → ⊥) → pending ≡ payment_of f c p
  unfolding payment_of
  pay_open h e = sym (pick_true _ _ _ (eq-eqb f 0 h) ∙ pick-false _ _ _ (ne_eqb c p e))

module _ (S : Sheet) (counts : List ℕ) (x : ℕ) (before : List ℕ) (u : Bool) (eu : u ≡ is_contract S x) where
  pub pay_not : u ≡ true → before ≡ pay_at S counts x before
  unfolding pay_at
  pay_not t = sym (pick_true _ _ _ (sym eu ∙ t))

  pub pay_it : u ≡ false → (w f c p : ℕ) → w ≡ code_of (payment_of f c p) → f ≡ get_or counts (2 * x + 1) 0 → c ≡ get_or counts (2 * x) 0 → p ≡ parts S x
      → set before x w ≡ pay_at S counts x before
  unfolding pay_at
  pay_it n w f c p e ef ec ep =
      ap (set before x) (e ∙ ap₂ (λ (a b : ℕ). code_of (payment_of a b p)) ef ec ∙ ap (λ (q : ℕ). code_of (payment_of (get_or counts (2 * x + 1) 0) (get_or counts (2 * x) 0) q)) ep)
      ∙ sym (pick-false _ _ _ (sym eu ∙ n))

module _ (S : Sheet) (counts : List ℕ) where
  -- the number that the counts give to x
  abbrev pub paid_as : ℕ → ℕ
  paid_as x = code_of (payment_of (get_or counts (2 * x + 1) 0) (get_or counts (2 * x) 0) (parts S x))

  pay-length : (x : ℕ) (t : List ℕ) → length (pay_at S counts x t) ≡ length t
  unfolding pay_at
  pay-length x t = by-pick (λ (l : List ℕ). length l ≡ length t) _ (λ e. refl) (λ e. length-set t x _)

  pay_here : (x : ℕ) (t : List ℕ) → x < length t → get_or (pay_at S counts x t) x 0 ≡ pick (is_contract S x) (get_or t x 0) (paid_as x)
  unfolding pay_at
  pay_here x t l = go (is_contract S x)
    where
      go : (u : Bool) → get_or (pick u t (set t x (paid_as x))) x 0 ≡ pick u (get_or t x 0) (paid_as x)
      go true = unfold pick in refl
      go false = unfold pick in get_or-set_same t x (paid_as x) 0 l

  pay_other : (x y : ℕ) (t : List ℕ) → (y ≡ x → ⊥) → get_or (pay_at S counts x t) y 0 ≡ get_or t y 0
  unfolding pay_at
  pay_other x y t n = by-pick (λ (l : List ℕ). get_or l y 0 ≡ get_or t y 0) _ (λ e. refl) (λ e. get_or-set_other t x y _ 0 n)

  pub pay_to-length : (n : ℕ) (t : List ℕ) → length (pay_to S counts n t) ≡ length t
  unfolding pay_to
  pay_to-length n t = fold_length n (pay_at S counts) t pay-length

  pub pay_to-past : (n y : ℕ) (t : List ℕ) → n ≤ y → get_or (pay_to S counts n t) y 0 ≡ get_or t y 0
  unfolding pay_to fold_to
  pay_to-past zero y t l = refl
  pay_to-past (suc n) y t l = pay_other n y (pay_to S counts n t) (λ (e : y ≡ n). omega (arith, e)) ∙ pay_to-past n y t (omega arith)

  pub pay_to_at : (n x : ℕ) (t : List ℕ) → x < n → n ≤ length t → get_or (pay_to S counts n t) x 0 ≡ pick (is_contract S x) (get_or t x 0) (paid_as x)
  unfolding pay_to fold_to
  pay_to_at zero x t l room = absurd (not-suc-le-zero l)
  pay_to_at (suc n) x t l room = go (eqb x n) refl (λ h. pay_to_at n x t h (omega arith))
    where
      go : (b : Bool) → eqb x n ≡ b → (x < n → get_or (pay_to S counts n t) x 0 ≡ pick (is_contract S x) (get_or t x 0) (paid_as x)) → get_or
          (pay_at S counts n (pay_to S counts n t)) x 0 ≡ pick (is_contract S x) (get_or t x 0) (paid_as x)
      go true e ih =
          let d : x ≡ n = eqb-true x n e in
          rw d (pay_here n (pay_to S counts n t) (omega (arith, pay_to-length n t)) ∙ ap (λ (k : ℕ). pick (is_contract S n) k (paid_as n)) (pay_to-past n n t (omega arith)))
      go false e ih = let w : x ≢ n = eqb-false x n e in pay_other n x (pay_to S counts n t) w ∙ ih (omega (arith, w))
