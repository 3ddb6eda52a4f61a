-- The citations: a row searched for a transaction, and each branch of 13, 14 and 15.
-- Assumes nothing.
use Prim.Native.Nat.{◌*◌, ◌+◌, ◌<◌, ◌≤◌, ℕ}
use borrow.Author.Tests.{eq-eqb, eqb-false, eqb-true, le-leb, lt-leb, ne_eqb}
use lib.Dec.{eqb, leb}
use lib.ListN.{get_or-eq_default, get_or, length}
use mathlib.Core.Bool.{Bool, false, not, true}
use mathlib.Core.List.{List}
use mathlib.Core.Path.{◌∙◌, ◌≡◌, ap, refl, sym}
use native.Mathlib.Omega.{arith}
use Rattle.admission.proofs.SearchLaws.{any_found, any_rest, any_turn}
use Rattle.admission.specs.Citing.{cites_in, values_of, values_with}
use Rattle.admission.specs.Replies.{cites_only}
use Rattle.escrow.specs.Cells.{history_in}
use Rattle.sheets.specs.Sheet.{sheet_in}
use Rattle.frames.specs.declared.block.Block.{Block}
use Rattle.ordering.specs.Table.{count_in}
use Rattle.plain.proofs.AnswerLaws.{refuse_false, refuse_true, then_go, then_stop}
use Rattle.plain.specs.Answer.{Answer, accepted, refuse, refused}
use Rattle.plain.specs.Plain.{cite_answer, cited_before}
use Rattle.sums.proofs.SeqLaws.{get_d_default}
use Rattle.sums.proofs.TestLaws.{pick-false, pick_true}
use Rattle.sums.specs.Test.{any_to}
use Rattle.sheets.specs.declared.sheet.Sizes.{Sizes}
use Rattle.admission.specs.declared.citations.Citations.{Citations}
use Rattle.sheets.proofs.SheetCells.{sheet-count}
use Rattle.settlement.specs.Cells.{cell_in}
use Rattle.sheets.specs.Parts.{has_part}
use Rattle.sheets.specs.Sheet.{tx_count}
use Rattle.settlement.specs.View.{no_cite}

-- ---- one of a row is x

abbrev pub is_at : (ℕ → ℕ) → ℕ → ℕ → Bool
is_at row x p = eqb (row p) x

module _ (row : ℕ → ℕ) (x : ℕ) where
  pub is_found : (n p : ℕ) {v : ℕ} → p < n → v ≡ row p → v ≡ x → true ≡ any_to n (is_at row x)
  is_found n p h q e = any_found n p (is_at row x) h (sym (eq-eqb (row p) x (sym q ∙ e))) refl

  pub is_turn : (p : ℕ) {v : ℕ} → any_to p (is_at row x) ≡ false → v ≡ row p → (v ≡ x → ⊥) → any_to (p + 1) (is_at row x) ≡ false
  is_turn p h q e = any_turn p (is_at row x) h (sym (ne_eqb (row p) x (λ z. e (q ∙ z)))) refl

-- the cells of instance i: those that are there, and those past the end
pub cell-there : (cites : List ℕ) (i p : ℕ) {at : ℕ} → at ≡ i * 4096 + p → at < length cites → get_or cites at 0 ≡ cell_in cites i p
cell-there cites i p {at} q h = get_d_default cites at 0 65535 h ∙ ap (λ (k : ℕ). get_or cites k 65535) q

cell-past : (cites : List ℕ) (i p : ℕ) → length cites ≤ i * 4096 + p → cell_in cites i p ≡ 65535
cell-past cites i p h = get_or-eq_default cites 65535 h

-- past the end every place holds 65535
pub row-past : (cites : List ℕ) (i x n k : ℕ) → k < n → length cites ≤ i * 4096 + k → any_to k (is_at (cell_in cites i) x) ≡ false → eqb x 65535 ≡ any_to n (is_at (cell_in cites i) x)
row-past cites i x n k h l p = go (eqb x 65535) refl
  where
    go : (u : Bool) → eqb x 65535 ≡ u → u ≡ any_to n (is_at (cell_in cites i) x)
    go true e = is_found (cell_in cites i) x n k h (sym (cell-past cites i k l)) (sym (eqb-true x 65535 e))
    go false e = sym (any_rest n k (is_at (cell_in cites i) x) (omega arith) p (λ j u. ne_eqb (cell_in cites i j) x (λ z. eqb-false x 65535 e (sym z ∙ cell-past cites i j (omega arith)))))

-- ---- 13, 14 and 15 at a place; x is the transaction there

module _ (b : List ℕ) (z : Sizes) (heights cites : List ℕ) (B : Block) (c : Citations) (q : ℕ) {x : ℕ} (ex : x ≡ get_or (cites_in c) q no_cite) where
  pub none-there : z.t ≤ x → refused 13 q ≡ cite_answer (sheet_in b z) (cites_only heights cites) (values_of B c) q
  unfolding cite_answer values_with
  none-there h = sym (then_stop _ _ 13 q (refuse_true _ 13 q (le-leb (tx_count (sheet_in b z)) (get_or (cites_in c) q no_cite) (omega (arith, sheet-count b z, ex)))))

  module _ (h : x < z.t) {u : Bool} (eu : u ≡ has_part (sheet_in b z) x B.instance) where
    below : leb (tx_count (sheet_in b z)) (get_or (cites_in c) q no_cite) ≡ false
    below = lt-leb (tx_count (sheet_in b z)) (get_or (cites_in c) q no_cite) (omega (arith, sheet-count b z, ex))

    part : not (has_part (sheet_in b z) (get_or (cites_in c) q no_cite) B.instance) ≡ not u
    part = sym (ap not eu ∙ ap (λ (k : ℕ). not (has_part (sheet_in b z) k B.instance)) ex)

    pub no_part : not u ≡ true → refused 14 q ≡ cite_answer (sheet_in b z) (cites_only heights cites) (values_of B c) q
    unfolding cite_answer values_with
    no_part n = sym (then_go _ _ _ (refuse_false _ 13 q below) (then_stop _ _ 14 q (refuse_true _ 14 q (part ∙ n))))

    module _ (n : not u ≡ false) {k : ℕ} (ek : k ≡ count_in heights B.instance) {w : Bool} (ew : w ≡ any_to (k * 32) (is_at (cell_in cites B.instance) x)) where
      past : {r : Answer} (t : Bool) → refuse t 15 q ≡ r → cited_before (cites_only heights cites) (values_of B c) q (get_or (cites_in c) q no_cite) ≡ t → r ≡ cite_answer (sheet_in b z) (cites_only heights cites) (values_of B c) q
      unfolding cite_answer values_with
      past t e p = sym (then_go _ _ _ (refuse_false _ 13 q below) (then_go _ _ _ (refuse_false _ 14 q (part ∙ n)) (ap (λ (s : Bool). refuse s 15 q) p ∙ e)))

      row : any_to (count_in heights B.instance * 32) (is_at (cell_in cites B.instance) (get_or (cites_in c) q no_cite)) ≡ w
      row = sym (ew ∙ ap (λ (j : ℕ). any_to (j * 32) (is_at (cell_in cites B.instance) x)) ek ∙ ap (λ (y : ℕ). any_to (count_in heights B.instance * 32) (is_at (cell_in cites B.instance) y)) ex)

      pub cited-before : w ≡ true → refused 15 q ≡ cite_answer (sheet_in b z) (cites_only heights cites) (values_of B c) q
      unfolding cited_before history_in values_with
      cited-before e = past true (refuse_true true 15 q refl) (pick_true _ _ _ (row ∙ e))

      module _ (e : w ≡ false) {v : Bool} (ev : v ≡ any_to q (is_at (λ j. get_or (cites_in c) j no_cite) x)) where
        above : cited_before (cites_only heights cites) (values_of B c) q (get_or (cites_in c) q no_cite) ≡ v
        unfolding cited_before history_in values_with
        above = pick-false _ _ _ (row ∙ e) ∙ sym (ev ∙ ap (λ (y : ℕ). any_to q (is_at (λ j. get_or (cites_in c) j no_cite) y)) ex)

        pub cited-above : v ≡ true → refused 15 q ≡ cite_answer (sheet_in b z) (cites_only heights cites) (values_of B c) q
        cited-above y = past v (refuse_true v 15 q y) above

        pub cited-not : v ≡ false → accepted ≡ cite_answer (sheet_in b z) (cites_only heights cites) (values_of B c) q
        cited-not y = past v (refuse_false v 15 q y) above
