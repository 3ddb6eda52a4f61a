-- The answer to an offered frame, test by test, as the code goes through them.
-- Assumes nothing.
use Rattle.std.proofs.Common.{Ok, Err, None}
use Prim.Native.Nat.{◌*◌, ◌+◌, ◌<◌, ◌≤◌, ℕ}
use borrow.Author.Tests.{eq-eqb, le-leb, lt-leb, ne_eqb, not-false, not-true}
use lib.Dec.{eqb, leb}
use lib.ListN.{length, take}
use lib.Seq.{take_all}
use mathlib.Core.Bool.{Bool, false, not, true}
use mathlib.Core.List.{List}
use mathlib.Core.Path.{◌∙◌, ◌≡◌, ap, refl, sym}
use native.Mathlib.Omega.{arith}
use Rattle.admission.proofs.SearchLaws.{chain_go, chain-stop}
use Rattle.admission.specs.Citing.{cites_in, values_of, values_with}
use Rattle.admission.specs.Replies.{reply_to}
use Rattle.fields.specs.Number.{le}
use Rattle.frames.proofs.BlockLaws.{block_checked}
use Rattle.frames.specs.Block.{check_block, cites_of}
use Rattle.frames.specs.Block as frames
use Rattle.frames.specs.Frame.{body_of, frame_at, whole_frame}
use Rattle.state.proofs.LengthLaws.{needs_are}
use Rattle.state.specs.Cells.{past_in}
use Rattle.state.specs.Lengths.{least_lengths, needs_list}
use Rattle.offers.specs.Offering.{answer_from, whole_answer}
use Rattle.state.specs.State.{Kept, cells_of, complete, sheet_of, sizes_of}
use Rattle.plain.proofs.AnswerLaws.{then_go}
use Rattle.plain.specs.Answer.{Answer, ◌then◌, accepted, is_accepted, no_offer, refused}
use Rattle.plain.specs.Early.{early_answer, early_frame, early_front}
use Rattle.plain.specs.Offers.{Parsed, block, block_of, frame, offer_needs, parse, parsed_body, parsed_frame, values_in, wrong}
use Rattle.plain.specs.Plain.{answer, block_answer, front_answer, idle_answer, lent_answer, parsed_answer}
use Rattle.refusals.specs.Refusals.{refusal_number, refusal_place}
use Rattle.sheets.proofs.SheetCells.{sheet-m}
use Rattle.sums.proofs.SeqLaws.{length-tabulate}
use Rattle.sums.proofs.TestLaws.{by-pick, pick-false, pick_true}
use Rattle.sums.specs.Test.{pick}
use Rattle.admission.specs.declared.citations.Citations.{Citations}
use Rattle.frames.specs.declared.block.Block.{Block}
use Rattle.frames.specs.Frame.{Framed}
use Rattle.state.specs.declared.ledger.Ledger.{Ledger}
use Rattle.refusals.specs.Refusals.{Checked}
use Rattle.refusals.specs.declared.Refusal.{Refusal}
use Rattle.refusals.specs.declared.Refusal.TheVariants.{KindNotDue}

-- a parsed frame, and the answer that follows
abbrev after : Ledger → Kept → Parsed → Answer
after l K p = parsed_answer p then block_answer (sheet_of l K) (past_in (cells_of l K)) (block_of p)

module _ (l : Ledger) (K : Kept) (kind : ℕ) (b : List ℕ) (at : ℕ) where
  pub whole-early : complete l ≡ false → refused 3 at ≡ whole_answer l K kind b at
  unfolding whole_answer
  whole-early e = sym (pick-false (complete l) _ _ e)

  module _ (whole : complete l ≡ true) where
    by-parse : (p : Parsed) → parsed_frame (sheet_of l K).m b at (whole_frame kind 0 0) ≡ p → after l K p ≡ whole_answer l K kind b at
    unfolding whole_answer
    by-parse p e = sym (pick_true (complete l) _ _ whole ∙ ap (after l K) e)

    pub whole-kind : (kind ≡ 4 → ⊥) → refused 3 at ≡ whole_answer l K kind b at
    unfolding ◌then◌
    whole-kind n = by-parse (wrong (KindNotDue at)) (pick_true (not (eqb kind 4)) _ _ (ap not (ne_eqb kind 4 n)))

    module _ (due : kind ≡ 4) (c : Checked) (ec : c ≡ check_block b at l.loading.m) where
      parsed : parsed_frame (sheet_of l K).m b at (whole_frame kind 0 0) ≡ parsed_body b (sheet_of l K).m c
      parsed =
          pick-false (not (eqb kind 4)) _ _ (ap not (eq-eqb kind 4 due))
          ∙ ap (parsed_body b (sheet_of l K).m) (ap (check_block b at) (sheet-m K.sheet (sizes_of l)) ∙ sym ec)

      pub whole-checked : {u : Bool} → u ≡ is_accepted (reply_to c) → not u ≡ true → reply_to c ≡ whole_answer l K kind b at
      unfolding ◌then◌
      whole-checked {u} q h = go c refl
        where
          go : (d : Checked) → c ≡ d → reply_to c ≡ whole_answer l K kind b at
          go (Ok _) e = absurd (never (sym (not-true u h) ∙ q ∙ ap (λ (x : Checked). is_accepted (reply_to x)) e))
            where
              never : false ≡ true → ⊥
              never z = let w : ◌≡◌ {A = ℕ} 0 1 = cc in omega arith
          go (Err r) e = ap reply_to e ∙ by-parse (wrong r) (parsed ∙ ap (parsed_body b (sheet_of l K).m) e)

      pub fine-is : {u : Bool} → u ≡ is_accepted (reply_to c) → not u ≡ false → c ≡ Ok tt
      fine-is {u} q h = go c refl
        where
          go : (d : Checked) → c ≡ d → c ≡ Ok tt
          go (Ok _) e = e
          go (Err r) e = absurd (never (sym (not-false u h) ∙ q ∙ ap (λ (x : Checked). is_accepted (reply_to x)) e))
            where
              never : true ≡ false → ⊥
              never z = let w : ◌≡◌ {A = ℕ} 0 1 = cc in omega arith

      pub whole-block : {u : Bool} → u ≡ is_accepted (reply_to c) → not u ≡ false → (a : Answer) → a ≡ block_answer (sheet_of l K) (past_in (cells_of l K)) (values_in b l.loading.m) → a ≡ whole_answer l K kind b at
      unfolding ◌then◌
      whole-block q h a e =
          e ∙ ap (λ (m : ℕ). block_answer (sheet_of l K) (past_in (cells_of l K)) (values_in b m)) (sym (sheet-m K.sheet (sizes_of l)))
          ∙ by-parse (block (values_in b (sheet_of l K).m)) (parsed ∙ ap (parsed_body b (sheet_of l K).m) (fine-is q h))

-- ---- the frame at an offset

-- where no byte is left
pub frame-none : (l : Ledger) (K : Kept) (lent bytes : List ℕ) (at : ℕ) → length bytes ≤ at → no_offer ≡ answer_from l K (frame lent bytes at)
unfolding answer_from answer early_answer idle_answer ◌then◌
frame-none l K lent bytes at h =
    let i : pick (leb (length bytes) at) no_offer accepted ≡ no_offer = pick_true _ _ _ (le-leb (length bytes) at h) in
    by-pick (λ (x : Answer). no_offer ≡ x) (complete l) (λ t. sym (rw i refl)) (λ t. sym (rw i refl))

-- where a byte is left
module _ (l : Ledger) (K : Kept) (lent bytes : List ℕ) (at : ℕ) (left : at < length bytes) (r : Answer) {u : Bool}
    (e : r ≡ lent_answer (needs_list (least_lengths l)) lent) (fine : u ≡ is_accepted r) where
  room : r ≡ lent_answer (offer_needs (sheet_of l K)) lent
  room = e ∙ ap (λ (n : List ℕ). lent_answer n lent) (needs_are l K)

  a_byte : idle_answer (frame lent bytes at) ≡ accepted
  unfolding idle_answer
  a_byte = pick-false (leb (length bytes) at) _ _ (lt-leb _ _ left)

  begun : (x y : Answer) → x ≡ y → x ≡ (idle_answer (frame lent bytes at) then y)
  begun x y q = sym (then_go _ _ _ a_byte (sym q))

  pub frame-short : not u ≡ true → r ≡ answer_from l K (frame lent bytes at)
  unfolding answer_from answer early_answer
  frame-short h =
      by-pick (λ (a : Answer). r ≡ a) (complete l)
      (λ t. begun _ _ (chain-stop _ room fine h))
      (λ t. begun _ _ (chain-stop _ room fine h))

  module _ (go : not u ≡ false) where
    -- by what stands at the offset
    by_frame : (f : Framed) (a : Answer) → frame_at bytes at ≡ f → (complete l ≡ true → a ≡ after l K (parsed_frame (sheet_of l K).m (body_of (frame_at bytes at) bytes) at f)) → (complete l ≡ false → a ≡ early_frame at f)
        → a ≡ answer_from l K (frame lent bytes at)
    unfolding answer_from answer early_answer early_front front_answer parse
    by_frame f a q full early =
        by-pick (λ (x : Answer). a ≡ x) (complete l)
        (λ t. begun _ _ (chain_go room fine go (full t ∙ ap (λ (g : Framed). after l K (parsed_frame (sheet_of l K).m (body_of (frame_at bytes at) bytes) at g)) (sym q))))
        (λ t. begun _ _ (chain_go room fine go (early t ∙ ap (early_frame at) (sym q))))

    pub frame_refused : (x : Refusal) → frame_at bytes at ≡ Err x → refused (refusal_number x) (refusal_place x) ≡ answer_from l K (frame lent bytes at)
    unfolding ◌then◌
    frame_refused x q = by_frame (Err x) _ q (λ t. refl) (λ t. refl)

    pub frame_end : frame_at bytes at ≡ Ok None → refused 3 at ≡ answer_from l K (frame lent bytes at)
    unfolding ◌then◌
    frame_end q = by_frame (Ok None) _ q (λ t. refl) (λ t. refl)

    pub frame-whole : {k s n : ℕ} → frame_at bytes at ≡ whole_frame k s n → (a : Answer) (b : List ℕ) → b ≡ body_of (frame_at bytes at) bytes → a ≡ whole_answer l K k b at → a ≡ answer_from l K (frame lent bytes at)
    unfolding whole_answer
    frame-whole {k} {s} {n} q a b eb w =
        by_frame (whole_frame k s n) a q
        (λ t. w ∙ pick_true (complete l) _ _ t ∙ ap (λ (x : List ℕ). after l K (parsed_frame (sheet_of l K).m x at (whole_frame k s n))) eb)
        (λ t. w ∙ pick-false (complete l) _ _ t)

-- the block that the code reads is the one that the body says
pub values-read : (b : List ℕ) (at m : ℕ) (B : Block) (c : Citations) → check_block b at m ≡ Ok tt → B ≡ frames.block_of b m → cites_in c ≡ take 32 (cites_of b m) → values_of B c ≡ values_in b m
unfolding values_with frames.block_of cites_of
values-read b at m B c fine eb ec =
    let few = (block_checked b at m fine).few in
    rw (eb, ec, take_all 32 (cites_of b m) (omega (arith, length-tabulate (le 2 b 8) (λ k. le 2 b (10 + 2 * m + 2 * k))))) refl
