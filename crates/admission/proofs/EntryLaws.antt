-- The entries of a cut: each branch of the tests of unused entries, 11 and 12.
-- Assumes nothing.
use Prim.Native.Nat.{◌*◌, ◌+◌, ◌-◌, ◌<◌, ◌≤◌, ℕ}
use borrow.Author.Tests.{eq-eqb, le-leb, lt-leb, ne_eqb}
use lib.Dec.{eqb, leb, ltb}
use lib.ListN.{get_or}
use mathlib.Core.Bool.{Bool, false, not, true}
use mathlib.Core.List.{List, []}
use mathlib.Core.Path.{◌∙◌, ◌≡◌, ap, ap₂, sym}
use native.Mathlib.Omega.{arith}
use Rattle.admission.specs.Citing.{values_with}
use Rattle.admission.specs.Replies.{cuts_only}
use Rattle.escrow.specs.Cells.{history_in}
use Rattle.frames.specs.declared.block.Block.{Block}
use Rattle.ordering.proofs.Laws.{last_none, last_some}
use Rattle.ordering.specs.Table.{count_in}
use Rattle.plain.specs.Plain.{entry_off, last_entry}
use Rattle.sums.proofs.TestLaws.{pick-false, pick_true}
use Rattle.sums.specs.Test.{both}

-- ---- unused entries

abbrev pub set_at : ℕ → List ℕ → ℕ → Bool
set_at m cut e = both (leb m e) (not (eqb (get_or cut e 0) 0))

module _ (m : ℕ) (cut : List ℕ) (e : ℕ) where
  pub set_used : e < m → false ≡ set_at m cut e
  set_used h = sym (pick-false _ _ _ (lt-leb m e h))

  pub set-unused : {v : ℕ} → m ≤ e → v ≡ get_or cut e 0 → not (eqb v 0) ≡ set_at m cut e
  set-unused h q = ap (λ (v : ℕ). not (eqb v 0)) q ∙ sym (pick_true _ _ _ (le-leb m e h))

-- ---- the block before

module _ (heights cuts : List ℕ) (i e : ℕ) {h : ℕ} (q : h ≡ count_in heights i) where
  pub entry-none : h ≡ 0 → 0 ≡ last_entry (cuts_only heights cuts) i e
  unfolding last_entry history_in
  entry-none z = sym (last_none (λ n. get_or cuts ((i * 128 + n) * 16 + e) 0) (count_in heights i) (omega (arith, q)))

  pub entry-some : {at v : ℕ} → (h ≡ 0 → ⊥) → at ≡ (i * 128 + (h - 1)) * 16 + e → v ≡ get_or cuts at 0 → v ≡ last_entry (cuts_only heights cuts) i e
  unfolding last_entry history_in
  entry-some n p r =
      r ∙ ap (λ (k : ℕ). get_or cuts k 0) (p ∙ ap (λ (k : ℕ). (i * 128 + (k - 1)) * 16 + e) q)
      ∙ sym (last_some (λ n. get_or cuts ((i * 128 + n) * 16 + e) 0) (count_in heights i) (omega (arith, q)))

-- ---- 11

module _ (own number e v : ℕ) where
  pub own_no : (e ≡ own → ⊥) → false ≡ both (eqb e own) (not (eqb v (number - 1)))
  own_no h = sym (pick-false _ _ _ (ne_eqb e own h))

  pub own_yes : {n : ℕ} → e ≡ own → n ≡ number - 1 → not (eqb v n) ≡ both (eqb e own) (not (eqb v (number - 1)))
  own_yes h q = ap (λ (n : ℕ). not (eqb v n)) q ∙ sym (pick_true _ _ _ (eq-eqb e own h))

module _ (heights cuts : List ℕ) (b : Block) (e : ℕ) {v : ℕ} {u : Bool} (q : v ≡ get_or b.cut e 0) (p : u ≡ both (eqb e b.instance) (not (eqb v (b.sequence.0 - 1)))) where
  own : u ≡ both (eqb e b.instance) (not (eqb (get_or b.cut e 0) (b.sequence.0 - 1)))
  own = p ∙ ap (λ (k : ℕ). both (eqb e b.instance) (not (eqb k (b.sequence.0 - 1)))) q

  pub off_own : u ≡ true → true ≡ entry_off (cuts_only heights cuts) (values_with b []) e
  unfolding entry_off values_with
  off_own z = sym (pick_true _ _ _ (sym own ∙ z))

  pub off-back : {l : ℕ} → u ≡ false → l ≡ last_entry (cuts_only heights cuts) b.instance e → ltb v l ≡ entry_off (cuts_only heights cuts) (values_with b []) e
  unfolding entry_off values_with
  off-back z r = ap₂ ltb q r ∙ sym (pick-false _ _ _ (sym own ∙ z))
