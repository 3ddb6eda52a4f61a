-- The cells of the table of statuses, and the numbers that stand for them.
-- Assumes nothing.
use Prim.Native.Nat.{◌<◌, ◌≤◌, ℕ}
use borrow.Author.Tests.{eq-eqb, le-ltb, lt-ltb, ne_eqb}
use lib.ListN.{get_or}
use mathlib.Core.List.{List}
use mathlib.Core.Path.{◌∙◌, ◌≡◌, ap, refl, sym}
use Rattle.settlement.specs.Books.{paid, pending, returned}
use Rattle.settlement.specs.Tables.{code_in, status_in, status_of}
use Rattle.sums.proofs.TestLaws.{pick-false, pick_true}
use Rattle.sheets.specs.declared.sheet.Sizes.{Sizes}

pub code-in : (z : Sizes) (table : List ℕ) (x r : ℕ) → x < z.t → r ≡ get_or table x 0 → r ≡ code_in z table x
unfolding code_in
code-in z table x r h e = e ∙ sym (pick_true _ _ _ (lt-ltb x z.t h))

pub code-past : (z : Sizes) (table : List ℕ) (x : ℕ) → z.t ≤ x → 0 ≡ code_in z table x
unfolding code_in
code-past z table x h = sym (pick-false _ _ _ (le-ltb x z.t h))

pub status-in : (z : Sizes) (table : List ℕ) (x r : ℕ) → x < z.t → r ≡ get_or table x 0 → status_of r ≡ status_in z table x
unfolding status_in
status-in z table x r h e = ap status_of e ∙ sym (pick_true _ _ _ (lt-ltb x z.t h))

pub status-past : (z : Sizes) (table : List ℕ) (x : ℕ) → z.t ≤ x → status_of 0 ≡ status_in z table x
unfolding status_in status_of
status-past z table x h = pick_true _ _ _ (eq-eqb 0 0 refl) ∙ sym (pick-false _ _ _ (le-ltb x z.t h))

pub of_open : (n : ℕ) → n ≡ 0 → status_of n ≡ pending
unfolding status_of
of_open n e = pick_true _ _ _ (eq-eqb n 0 e)

pub of_paid : (n : ℕ) → (n ≡ 0 → ⊥) → n ≡ 1 → status_of n ≡ paid
unfolding status_of
of_paid n h e = pick-false _ _ _ (ne_eqb n 0 h) ∙ pick_true _ _ _ (eq-eqb n 1 e)

pub of_returned : (n : ℕ) → (n ≡ 0 → ⊥) → (n ≡ 1 → ⊥) → status_of n ≡ returned
unfolding status_of
of_returned n h e = pick-false _ _ _ (ne_eqb n 0 h) ∙ pick-false _ _ _ (ne_eqb n 1 e)
