-- The whole answer: each branch of 5 for values, and of 8, 17, 9 and 10 before the lists.
-- Assumes nothing.
use Prim.Native.Nat.{◌*◌, ◌+◌, ◌-◌, ◌<◌, ◌≤◌, ℕ}
use borrow.Author.Tests.{eq-eqb, le-leb, le-ltb, lt-leb, lt-ltb, ne_eqb}
use lib.Dec.{eqb, leb, ltb}
use lib.ListN.{get_or, length}
use mathlib.Core.Bool.{Bool, false, not, true}
use mathlib.Core.List.{List, []}
use mathlib.Core.Path.{◌∙◌, ◌≡◌, ap, ap₂, refl, sym}
use native.Mathlib.Omega.{arith}
use Rattle.admission.specs.Citing.{cites_in, values_of, values_with}
use Rattle.admission.specs.Replies.{cites_only, cuts_only, lists_answer, ranks_only}
use Rattle.escrow.specs.Cells.{history_in}
use Rattle.sheets.specs.Sheet.{sheet_in}
use Rattle.frames.specs.declared.block.Block.{Block}
use Rattle.ordering.proofs.Laws.{last_none, last_some}
use Rattle.ordering.specs.Table.{count_in, rank_in}
use Rattle.plain.proofs.AnswerLaws.{refuse_false, refuse_true, then_go, then_stop}
use Rattle.plain.specs.Answer.{Answer, ◌then◌, accepted, first_to, refuse, refused}
use Rattle.plain.specs.Logs.{Values}
use Rattle.plain.specs.Offers.{values}
use Rattle.plain.specs.Plain.{block_answer, cite_answer, cited_before, entry_off, front_answer, last_entry, last_rank, unused_set, values_answer}
use Rattle.sheets.specs.declared.sheet.Sizes.{Sizes}
use Rattle.admission.specs.declared.citations.Citations.{Citations}
use Rattle.sheets.specs.Sheet.{Sheet, sheet_from}

-- ---- 5

module _ (m : ℕ) (cut : List ℕ) (count : ℕ) where
  pub values_many : 32 < count → refused 5 0 ≡ values_answer m cut count
  unfolding values_answer
  values_many h = sym (then_stop _ _ 5 0 (refuse_true _ 5 0 (lt-ltb 32 count h)))

  module _ (h : count ≤ 32) {u : Bool} (p : u ≡ unused_set m cut) where
    pub values-set : u ≡ true → refused 5 0 ≡ values_answer m cut count
    unfolding values_answer
    values-set e = sym (then_go _ _ _ (refuse_false _ 5 0 (le-ltb 32 count h)) (refuse_true _ 5 0 (sym p ∙ e)))

    pub values-fine : u ≡ false → accepted ≡ values_answer m cut count
    unfolding values_answer
    values-fine e = sym (then_go _ _ _ (refuse_false _ 5 0 (le-ltb 32 count h)) (refuse_false _ 5 0 (sym p ∙ e)))

-- what the plain ledger answers to values before 8
pub values-front : (S : Sheet) (lent : List ℕ) (b : Values) → front_answer S (values lent b) ≡ values_answer S.m b.cut (length b.cites)
unfolding front_answer
values-front S lent b = refl

-- ---- the last rank

module _ (heights ranks : List ℕ) (i : ℕ) {h : ℕ} (q : h ≡ count_in heights i) where
  pub rank-none : h ≡ 0 → 0 ≡ last_rank (ranks_only heights ranks) i
  unfolding last_rank history_in
  rank-none z = sym (last_none (rank_in ranks i) (count_in heights i) (omega (arith, q)))

  pub rank-some : {at v : ℕ} → (h ≡ 0 → ⊥) → at ≡ i * 128 + (h - 1) → v ≡ get_or ranks at 0 → v ≡ last_rank (ranks_only heights ranks) i
  unfolding last_rank history_in
  rank-some n p r =
      r ∙ ap (λ (k : ℕ). get_or ranks k 0) (p ∙ ap (λ (k : ℕ). i * 128 + (k - 1)) q)
      ∙ sym (last_some (rank_in ranks i) (count_in heights i) (omega (arith, q)))

-- ---- 8, 17, 9, 10, then the rest

unfoldable front : (m i h number rank last : ℕ) → Answer → Answer
front m i h number rank last rest =
    refuse (leb m i) 8 0
    then refuse (leb 128 h) 17 0
    then refuse (not (eqb number (h + 1))) 9 (h + 1)
    then refuse (leb rank last) 10 last
    then rest

module _ (m i h number rank last : ℕ) (rest : Answer) where
  front_8 : m ≤ i → refused 8 0 ≡ front m i h number rank last rest
  unfolding front
  front_8 a = sym (then_stop _ _ 8 0 (refuse_true _ 8 0 (le-leb m i a)))

  module _ (a : i < m) where
    front-17 : 128 ≤ h → refused 17 0 ≡ front m i h number rank last rest
    unfolding front
    front-17 b = sym (then_go _ _ _ (refuse_false _ 8 0 (lt-leb m i a)) (then_stop _ _ 17 0 (refuse_true _ 17 0 (le-leb 128 h b))))

    module _ (b : h < 128) where
      front-9 : (number ≡ h + 1 → ⊥) → refused 9 (h + 1) ≡ front m i h number rank last rest
      unfolding front
      front-9 n =
          sym (then_go _ _ _ (refuse_false _ 8 0 (lt-leb m i a))
          (then_go _ _ _ (refuse_false _ 17 0 (lt-leb 128 h b))
          (then_stop _ _ 9 (h + 1) (refuse_true _ 9 (h + 1) (ap not (ne_eqb number (h + 1) n))))))

      module _ (d : number ≡ h + 1) where
        due : {r : Answer} (s : Answer) → s ≡ r → (refuse (leb m i) 8 0 then refuse (leb 128 h) 17 0 then refuse (not (eqb number (h + 1))) 9 (h + 1) then s) ≡ r
        due s e =
            then_go _ _ _ (refuse_false _ 8 0 (lt-leb m i a))
            (then_go _ _ _ (refuse_false _ 17 0 (lt-leb 128 h b))
            (then_go _ _ _ (refuse_false _ 9 (h + 1) (ap not (eq-eqb number (h + 1) d))) e))

        front-10 : rank ≤ last → refused 10 last ≡ front m i h number rank last rest
        unfolding front
        front-10 l = sym (due _ (then_stop _ _ 10 last (refuse_true _ 10 last (le-leb rank last l))))

        front-past : {r : Answer} → last < rank → r ≡ rest → r ≡ front m i h number rank last rest
        unfolding front
        front-past {r} l e = sym (due _ (then_go (refuse (leb rank last) 10 last) rest r (refuse_false _ 10 last (lt-leb rank last l)) (sym e)))

-- ---- the same of the plain ledger's answer

module _ (b : List ℕ) (z : Sizes) (heights ranks cuts cites : List ℕ) (B : Block) (c : Citations) where
  -- what the lists' checks look at
  pub lists_are : (first_to z.m (λ e. refuse (entry_off (cuts_only heights cuts) (values_with B []) e) 11 e)
      then first_to z.m (λ e. refuse (ltb (count_in heights e) (get_or B.cut e 0)) 12 e)
      then first_to (length (cites_in c)) (cite_answer (sheet_in b z) (cites_only heights cites) (values_of B c)))
      ≡ lists_answer (sheet_in b z) (history_in (count_in heights) [] cuts cites) (values_of B c)
  unfolding lists_answer entry_off last_entry cite_answer cited_before history_in sheet_in sheet_from values_with
  lists_are = refl

  block_is : {h l : ℕ} {r : Answer} → h ≡ count_in heights B.instance → l ≡ last_rank (ranks_only heights ranks) B.instance
      → r ≡ front z.m B.instance h B.sequence.0 B.rank.0 l (lists_answer (sheet_in b z) (history_in (count_in heights) [] cuts cites) (values_of B c))
      → r ≡ block_answer (sheet_in b z) (history_in (count_in heights) ranks cuts cites) (values_of B c)
  unfolding block_answer front lists_answer last_rank entry_off last_entry cite_answer cited_before history_in sheet_in sheet_from values_with
  block_is q p e =
      e ∙ ap₂ (λ (h l : ℕ). front z.m B.instance h B.sequence.0 B.rank.0 l (lists_answer (sheet_in b z) (history_in (count_in heights) [] cuts cites) (values_of B c))) q p

  pub block_8 : z.m ≤ B.instance → refused 8 0 ≡ block_answer (sheet_in b z) (history_in (count_in heights) ranks cuts cites) (values_of B c)
  block_8 a = block_is refl refl (front_8 _ _ _ _ _ _ _ a)

  module _ (a : B.instance < z.m) {h : ℕ} (q : h ≡ count_in heights B.instance) where
    pub block-17 : 128 ≤ h → refused 17 0 ≡ block_answer (sheet_in b z) (history_in (count_in heights) ranks cuts cites) (values_of B c)
    block-17 k = block_is q refl (front-17 _ _ _ _ _ _ _ a k)

    module _ (k : h < 128) where
      pub block-9 : (B.sequence.0 ≡ h + 1 → ⊥) → refused 9 (h + 1) ≡ block_answer (sheet_in b z) (history_in (count_in heights) ranks cuts cites) (values_of B c)
      block-9 n = block_is q refl (front-9 _ _ _ _ _ _ _ a k n)

      module _ (d : B.sequence.0 ≡ h + 1) {l : ℕ} (p : l ≡ last_rank (ranks_only heights ranks) B.instance) where
        pub block-10 : B.rank.0 ≤ l → refused 10 l ≡ block_answer (sheet_in b z) (history_in (count_in heights) ranks cuts cites) (values_of B c)
        block-10 u = block_is q p (front-10 _ _ _ _ _ _ _ a k d u)

        pub block-lists : {r : Answer} → l < B.rank.0 → r ≡ lists_answer (sheet_in b z) (history_in (count_in heights) [] cuts cites) (values_of B c)
            → r ≡ block_answer (sheet_in b z) (history_in (count_in heights) ranks cuts cites) (values_of B c)
        block-lists u e = block_is q p (front-past _ _ _ _ _ _ _ a k d u e)
