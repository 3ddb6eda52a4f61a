-- The answer to an offer, test by test, as the code goes through them.
-- Assumes nothing.
use Prim.Native.Nat.{◌≤◌, ℕ}
use borrow.Author.Tests.{ltb-false, not-false}
use lib.Dec.{ltb}
use lib.ListN.{length, take}
use lib.Seq.{take_all}
use mathlib.Core.Bool.{Bool, false, not, true}
use mathlib.Core.List.{List}
use mathlib.Core.Path.{◌∙◌, ◌≡◌, ap, refl, sym}
use Rattle.admission.proofs.SearchLaws.{chain_go, chain-stop}
use Rattle.state.proofs.LengthLaws.{needs_are}
use Rattle.state.specs.Cells.{past_in}
use Rattle.state.specs.Lengths.{least_lengths, needs_list}
use Rattle.offers.specs.Offering.{answer_from}
use Rattle.state.specs.State.{Kept, cells_of, complete, sheet_of, sizes_of}
use Rattle.plain.proofs.AnswerLaws.{accepted_of, refuse_pass, then_pass}
use Rattle.plain.specs.Answer.{Answer, ◌then◌, is_accepted, refused}
use Rattle.plain.specs.Early.{early_answer, early_front}
use Rattle.plain.specs.Logs.{Values}
use Rattle.plain.specs.Offers.{offer_needs, values}
use Rattle.plain.specs.Plain.{answer, block_answer, front_answer, idle_answer, lent_answer, values_answer}
use Rattle.sheets.proofs.SheetCells.{sheet-m}
use Rattle.sums.proofs.TestLaws.{by-pick, pick-false, pick_true}
use Rattle.state.specs.declared.ledger.Ledger.{Ledger}

module _ (l : Ledger) (K : Kept) (lent : List ℕ) (b : Values) (r : Answer) {u : Bool}
    (e : r ≡ lent_answer (needs_list (least_lengths l)) lent) (fine : u ≡ is_accepted r) where
  room : r ≡ lent_answer (offer_needs (sheet_of l K)) lent
  room = e ∙ ap (λ (n : List ℕ). lent_answer n lent) (needs_are l K)

  -- 16
  pub values-short : not u ≡ true → r ≡ answer_from l K (values lent b)
  unfolding answer_from answer early_answer idle_answer ◌then◌
  values-short h =
      by-pick (λ (a : Answer). r ≡ a) (complete l)
      (λ t. chain-stop _ room fine h)
      (λ t. chain-stop _ room fine h)

  module _ (go : not u ≡ false) where
    -- 3
    pub values-early : complete l ≡ false → refused 3 0 ≡ answer_from l K (values lent b)
    unfolding answer_from early_answer early_front idle_answer ◌then◌
    values-early t = chain_go room fine go refl ∙ sym (pick-false (complete l) _ _ t)

    module _ (whole : complete l ≡ true) (s : Answer) {v : Bool} (f : s ≡ values_answer l.loading.m b.cut (length b.cites)) (fine' : v ≡ is_accepted s) where
      front : s ≡ front_answer (sheet_of l K) (values lent b)
      unfolding front_answer
      front = f ∙ ap (λ (m : ℕ). values_answer m b.cut (length b.cites)) (sym (sheet-m K.sheet (sizes_of l)))

      -- 5
      pub values-front-stop : not v ≡ true → s ≡ answer_from l K (values lent b)
      unfolding answer_from answer idle_answer ◌then◌
      values-front-stop h = chain_go room fine go (chain-stop _ front fine' h) ∙ sym (pick_true (complete l) _ _ whole)

      -- 8 to 15 and 17
      pub values-block : not v ≡ false → (a : Answer) → a ≡ block_answer (sheet_of l K) (past_in (cells_of l K)) b → a ≡ answer_from l K (values lent b)
      unfolding answer_from answer idle_answer ◌then◌
      values-block h a q = chain_go room fine go (chain_go front fine' h q) ∙ sym (pick_true (complete l) _ _ whole)

-- values that pass 5 have at most 32 citations, so that their list goes by value whole
pub values-few : (m : ℕ) (cut : List ℕ) (n : ℕ) (s : Answer) {v : Bool} → s ≡ values_answer m cut n → v ≡ is_accepted s → not v ≡ false → n ≤ 32
unfolding values_answer
values-few m cut n s e f h = ltb-false 32 n (refuse_pass (ltb 32 n) 5 0 (then_pass _ _ (sym e ∙ accepted_of s (sym f ∙ not-false _ h))).0)

pub whole_list : (l : List ℕ) → length l ≤ 32 → take 32 l ≡ l
whole_list l h = take_all 32 l h
