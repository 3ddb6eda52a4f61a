-- The view of a citation, by its block's cut.
-- Assumes nothing.
use Prim.Native.Nat.{◌*◌, ◌<◌, ◌≤◌, ℕ}
use borrow.Author.Tests.{eq-eqb, ne_eqb}
use lib.ListN.{get_or-eq_default, length}
use mathlib.Core.List.{List}
use mathlib.Core.Path.{◌≡◌, ap, refl, sym}
use native.Mathlib.Omega.{arith}
use Rattle.acceptance.specs.Judging.{view_by}
use Rattle.ordering.specs.Table.{count_in}
use Rattle.sums.proofs.TestLaws.{passed, took}

module _ (F : ℕ → ℕ) (i p j : ℕ) where
  pub view_own : j ≡ i → p ≡ view_by F i p j
  view_own e = sym (took _ (eq-eqb j i e) refl)

  pub view_other : (j ≡ i → ⊥) → (n : ℕ) → n ≡ F j → n * 32 ≡ view_by F i p j
  view_other e n q = sym (passed _ (ne_eqb j i e) (ap (λ (k : ℕ). k * 32) (sym q)))

-- no instance from sixteen on
pub view_past : (cut : List ℕ) → length cut ≡ 16 → (i p : ℕ) → i < 16 → (j : ℕ) → 16 ≤ j → view_by (count_in cut) i p j ≡ 0
view_past cut e i p l j h =
    passed _ (ne_eqb j i (λ z. omega arith)) (ap (λ (k : ℕ). k * 32) (get_or-eq_default cut 0 {n = j} (omega arith)))
