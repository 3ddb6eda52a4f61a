-- The course of the blocks is the text that the rest of the run says, where the sheet is complete and the buffers suffice.
-- Assumes nothing.
use Rattle.std.proofs.Common.{Ok, Err, None, Some}
use Prim.Native.Nat.{◌+◌, ◌<◌, ◌≤◌, suc, zero, ℕ}
use borrow.Author.Tests.{le-leb, lt-leb}
use lib.Dec.{leb, ltb}
use lib.ListN.{length}
use mathlib.Core.Bool.{Bool, false, true}
use mathlib.Core.List.{List, [], ◌++◌, append_assoc}
use mathlib.Core.Path.{◌∙◌, ◌≡◌, ap, refl, subst, sym}
use native.Mathlib.Decide.{dec_lt}
use native.Mathlib.Omega.{arith}
use Rattle.demand.proofs.Demand3.{Q, comes}
use Rattle.demand.proofs.Lengths.{SameLengths, offered_lengths}
use Rattle.demand.proofs.Replies.{built, kept_left, replies, result}
use Rattle.demand.proofs.Steps.{Beside, offer-answer, offer-beside}
use Rattle.demand.specs.Chain.{Event, InUse}
use Rattle.demand.specs.Claim.{logs_of}
use Rattle.escrow.specs.Outcome.{History}
use Rattle.fields.specs.Number.{le}
use Rattle.frames.proofs.FrameLaws.{frame_is}
use Rattle.frames.specs.Frame.{body_at, frame_at, whole_frame}
use Rattle.frames.specs.Frame.{Framed}
use Rattle.offers.specs.Offering.{answer_from}
use Rattle.plain.proofs.AnswerLaws.{then_pass}
use Rattle.plain.proofs.FrameOffers.{parsed}
use Rattle.plain.specs.Answer.{Answer, ◌then◌, accepted, is_accepted, no_offer, refused}
use Rattle.plain.specs.Logs.{Logs, Values, history_of}
use Rattle.plain.specs.Offers.{Offer, Parsed, block_of, frame, offer_needs, parse, parsed_frame, values_in, wrong}
use Rattle.plain.specs.Offers as offers
use Rattle.plain.specs.Plain.{answer, front_answer, idle_answer, lent_answer, next, parsed_answer}
use Rattle.plain.specs.Report.{report_of}
use Rattle.refusals.specs.Refusals.{refusal_number, refusal_place}
use Rattle.refusals.specs.declared.Refusal.{Refusal}
use Rattle.refusals.specs.declared.Refusal.TheVariants.{BadLength, Short}
use Rattle.replay.proofs.LentLaws.{ample_lent, answer-lent, least_lent, next-lent}
use Rattle.replay.specs.Inner.{Ample, Course, PutsBlocks, behind, cells_after, course_from, course_of, kept_with, ledger_with, line_at, stopped, stops_at}
use Rattle.replay.specs.Reading.{answer_line, blocks_text, end_of, ends_output, frame_offer}
use Rattle.replay.specs.declared.blocks.Blocks.{Blocks}
use Rattle.settlement.specs.Tables.{Buffers}
use Rattle.sheets.proofs.ProperLaws.{ProperSheet}
use Rattle.sheets.proofs.SheetCells.{sheet-m}
use Rattle.sheets.specs.Sheet.{Sheet}
use Rattle.state.specs.State.{Kept, cells_of, complete, lengths_of, sheet_of, sizes_of}
use Rattle.state.specs.declared.ledger.Ledger.{Ledger}
use Rattle.sums.proofs.TestLaws.{by-pick, pick-false, pick_true}
use Rattle.sums.specs.Test.{pick}
use Rattle.text.specs.Tail.{tail_text}
use Rattle.text.specs.Wrote.{Wrote}

-- ---- an answer that does not end the output is that of a whole frame

-- a frame is refused by 1 or 2
low_number : (t u v w x : Bool) (at k start end : ℕ) (r : Refusal)
    → pick t (Ok None) (pick u (Err (Short at)) (pick v (Err (BadLength at)) (pick w (Err (BadLength at))
    (pick x (Err (Short at)) (whole_frame k start end))))) ≡ Err r
    → leb (refusal_number r) 7 ≡ true
unfolding pick
low_number true u v w x at k start end r e = absurd (let z : ◌≡◌ {A = ℕ} 0 1 = cc in omega arith)
low_number false true v w x at k start end r e = let z : r ≡ Short at = cc in rw z refl
low_number false false true w x at k start end r e = let z : r ≡ BadLength at = cc in rw z refl
low_number false false false true x at k start end r e = let z : r ≡ BadLength at = cc in rw z refl
low_number false false false false true at k start end r e = let z : r ≡ Short at = cc in rw z refl
low_number false false false false false at k start end r e = absurd (let z : ◌≡◌ {A = ℕ} 0 1 = cc in omega arith)

frame_low : (run : List ℕ) (at : ℕ) (r : Refusal) → frame_at run at ≡ Err r → leb (refusal_number r) 7 ≡ true
unfolding frame_at
frame_low run at r e = low_number (leb (length run) at) (ltb (length run) (at + 4)) (ltb (le 4 run at) 2) (ltb 8194 (le 4 run at)) (ltb (length run) (at + 4 + le 4 run at)) at _ _ _ r e

module _ (S : Sheet) (H : History) (lent run : List ℕ) (at : ℕ) (left : at < length run) (long : lent_answer (offer_needs S) lent ≡ accepted) where
  -- what the frame's own refusal leads to
  frame_stops : (r : Refusal) → parse S run at ≡ wrong r → answer S H (frame lent run at) ≡ refused (refusal_number r) (refusal_place r)
  unfolding answer idle_answer front_answer ◌then◌
  frame_stops r e = rw (pick-false _ no_offer accepted (lt-leb (length run) at left), long, e) refl

  never : (t : Bool) → t ≡ true → t ≡ false → ⊥
  never t e q = let z : ◌≡◌ {A = ℕ} 0 1 = cc in omega arith

  pub goes_on : ends_output (answer S H (frame lent run at)) ≡ false → at < end_of (frame_at run at) at
  unfolding parse ends_output
  goes_on e = by_frame (frame_at run at) refl
    where
      by_frame : (f : Framed) → frame_at run at ≡ f → at < end_of f at
      by_frame (Ok (Some span)) q = let F = frame_is run at q in omega (arith, F.ends)
      by_frame (Err r) q = absurd (never _ (frame_low run at r q) (ap ends_output (sym (frame_stops r (ap (parsed_frame S.m (body_at run at) at) q))) ∙ e))
      by_frame (Ok None) q = absurd (never _ refl (ap ends_output (sym (frame_stops _ (ap (parsed_frame S.m (body_at run at) at) q))) ∙ e))

  -- the block that is accepted is what the body says
  accepted-values : answer S H (frame lent run at) ≡ accepted → block_of (parse S run at) ≡ values_in (body_at run at) S.m
  unfolding answer front_answer
  accepted-values e = by-parsed (parse S run at) refl (then_pass _ _ (then_pass _ _ (then_pass _ _ e).1).1).0
    where
      by-parsed : (p : Parsed) → parse S run at ≡ p → parsed_answer p ≡ accepted → block_of (parse S run at) ≡ values_in (body_at run at) S.m
      by-parsed (offers.block b) q h = ap block_of q ∙ sym (parsed S run at b q).0
      by-parsed (wrong r) q h = absurd (let z : ◌≡◌ {A = ℕ} 0 1 = cc in omega arith)

  pub line_is : (a : Answer) → a ≡ answer S H (frame lent run at) → answer_line (values_in (body_at run at) S.m) a ≡ answer_line (block_of (parse S run at)) a
  unfolding answer_line
  line_is accepted e = ap (λ (b : Values). answer_line b accepted) (sym (accepted-values (sym e)))
  line_is (refused n p) e = refl
  line_is no_offer e = refl

-- ---- an offer keeps the lengths

module _ (l : Ledger) (K : Kept) (o : Offer) where
  lengths : SameLengths (cells_of l K) (cells_after l K o)
  unfolding cells_after
  lengths = offered_lengths (sheet_of l K) (answer_from l K o) (offers.offered (sheet_of l K) o) (cells_of l K)

  same_lengths : (W : Buffers) → lengths_of (kept_with K (cells_after l K o)) W ≡ lengths_of K W
  same_lengths W = rw (lengths.ranks, lengths.cuts, lengths.cites, lengths.good) refl

  ample_after : (W : Buffers) → Ample K W → Ample (kept_with K (cells_after l K o)) W
  ample_after W A = record {
    sheet = A.sheet;
    ranks = omega (arith, A.ranks, lengths.ranks);
    cuts = omega (arith, A.cuts, lengths.cuts);
    cites = omega (arith, A.cites, lengths.cites);
    good = omega (arith, A.good, lengths.good);
    counts = A.counts;
    table = A.table;
    order = A.order;
  }

-- ---- one offer of the course, beside the plain ledger

module _ (S : Sheet) (proper : ProperSheet S) (W : Buffers) (run : List ℕ) where
  -- the text of a course, with the report's lines where the output goes on
  pub record Tells (c : Course) (text : List ℕ) : Type 0 where
    pub logs : Logs
    pub beside : Beside S c.ledger c.kept logs
    pub lines : c.text ++ pick c.ended [] (tail_text (report_of S logs)) ≡ text

  tells_as : {c c' : Course} {t t' : List ℕ} → c ≡ c' → t ≡ t' → Tells c' t' → Tells c t
  tells_as e q p = rw (e, q) p

  tells-behind : (t : List ℕ) (b : Bool) (c : Course) (text : List ℕ) → Tells c text → Tells (behind t b c) (t ++ text)
  tells-behind t b c text p = record { logs = p.logs; beside = p.beside; lines = append_assoc t c.text _ ∙ ap (λ (x : List ℕ). t ++ x) p.lines }

  tells-stopped : (l : Ledger) (K : Kept) (L : Logs) (b : Bool) → Beside S l K L → Tells (stopped l K b) (pick b [] (tail_text (report_of S L)))
  tells-stopped l K L b B = record { logs = L; beside = B; lines = refl }

  module _ (l : Ledger) (K : Kept) (L : Logs) (B : Beside S l K L) (A : Ample K W) (at : ℕ) (more : at < length run) where
    abbrev o : Offer
    o = frame (lengths_of K W) run at

    abbrev end : ℕ
    end = end_of (frame_at run at) at

    abbrev l' : Ledger
    l' = ledger_with l (cells_after l K o)

    abbrev K' : Kept
    K' = kept_with K (cells_after l K o)

    abbrev a : Answer
    a = answer S (history_of L) (frame_offer S run at)

    abbrev L' : Logs
    L' = next S L (frame_offer S run at)

    same : answer_from l K o ≡ a
    same =
        sym (replies l K o).1 ∙ offer-answer S proper l K W o (result l K o) (kept_left l K o) W L (built l K W o) refl B
        ∙ answer-lent S (lengths_of K W) (offer_needs S) run at (ample_lent S proper K W A) (least_lent S) L

    beside : Beside S l' K' L'
    unfolding cells_after
    beside = subst (Beside S l' K') (next-lent S (lengths_of K W) (offer_needs S) run at (ample_lent S proper K W A) (least_lent S) L)
        (offer-beside S proper l K W o (result l K o) (kept_left l K o) W L (built l K W o) refl B)

    line : line_at run at l (answer_from l K o) ≡ answer_line (offers.offered S (frame_offer S run at)) a
    line =
        let m : l.loading.m ≡ S.m = sym (ap (λ (T : Sheet). T.m) B.sheet ∙ sheet-m K.sheet (sizes_of l)) in
        ap (λ (k : ℕ). answer_line (values_in (body_at run at) k) (answer_from l K o)) m ∙ line_is S (history_of L) (offer_needs S) run at more (least_lent S) (answer_from l K o) same
        ∙ ap (answer_line (offers.offered S (frame_offer S run at))) same

    -- it goes on behind a whole frame, so it stops where the output ends
    stops : stops_at (answer_from l K o) at end ≡ ends_output a
    unfolding stops_at
    stops = ap (λ (a : Answer). pick (ends_output a) true (leb end at)) same ∙ by_end (ends_output a) refl
      where
        by_end : (b : Bool) → ends_output a ≡ b → pick b true (leb end at) ≡ b
        by_end true e = pick_true true _ _ refl
        by_end false e = pick-false false _ _ refl ∙ lt-leb end at (goes_on S (history_of L) (offer_needs S) run at more (least_lent S) e)

    module _ (fuel : ℕ) (rest : Tells (course_from fuel (lengths_of K W) run end l' K') (blocks_text fuel S run end L')) where
      by_end : (b : Bool) → ends_output a ≡ b → Tells (pick (stops_at (answer_from l K o) at end) (stopped l' K' true) (course_from fuel (lengths_of K W) run end l' K'))
          (pick (ends_output a) [] (blocks_text fuel S run end L'))
      by_end true e = tells_as (pick_true _ _ _ (stops ∙ e)) (pick_true _ _ _ e ∙ sym (pick_true true [] (tail_text (report_of S L')) refl)) (tells-stopped _ _ L' true beside)
      by_end false e = tells_as (pick-false _ _ _ (stops ∙ e)) (pick-false _ _ _ e) rest

      tells_more : Tells (course_from (suc fuel) (lengths_of K W) run at l K) (blocks_text (suc fuel) S run at L)
      unfolding course_from blocks_text
      tells_more =
          let e = lt-leb (length run) at more in
          tells_as (pick-false (leb (length run) at) _ _ e) (pick-false (leb (length run) at) _ _ e ∙ ap (λ (x : List ℕ). x ++ pick (ends_output a) [] (blocks_text fuel S run end L')) (sym line))
          (tells-behind (line_at run at l (answer_from l K o)) (is_accepted (answer_from l K o)) _ _ (by_end _ refl))

  tells_none : (fuel at : ℕ) (l : Ledger) (K : Kept) (L : Logs) (lent : List ℕ) → Beside S l K L → length run ≤ at → Tells (course_from (suc fuel) lent run at l K) (blocks_text (suc fuel) S run at L)
  unfolding course_from blocks_text
  tells_none fuel at l K L lent B h =
      let e = le-leb (length run) at h in
      tells_as (pick_true (leb (length run) at) _ _ e) (pick_true (leb (length run) at) _ _ e ∙ sym (pick-false false [] (tail_text (report_of S L)) refl)) (tells-stopped l K L false B)

  tells_from : (fuel at : ℕ) (l : Ledger) (K : Kept) (L : Logs) → Beside S l K L → Ample K W → Tells (course_from fuel (lengths_of K W) run at l K) (blocks_text fuel S run at L)
  tells_from zero at l K L B A = unfold course_from blocks_text in tells_as refl (sym (pick_true true [] (tail_text (report_of S L)) refl)) (tells-stopped l K L true B)
  tells_from (suc fuel) at l K L B A = elim (dec_lt at (length run)) [
    | yes more ↦
        let o' : Offer = frame (lengths_of K W) run at in
        let l' : Ledger = ledger_with l (cells_after l K o') in
        let K' : Kept = kept_with K (cells_after l K o') in
        let L' : Logs = next S L (frame_offer S run at) in
        let end : ℕ = end_of (frame_at run at) at in
        tells_more l K L B A at more fuel (subst (λ (lent : List ℕ). Tells (course_from fuel lent run end l' K') (blocks_text fuel S run end L')) (same_lengths l K o' W)
        (tells_from fuel end l' K' L' (beside l K L B A at more) (ample_after l K o' W A)))
    | no h ↦ tells_none fuel at l K L (lengths_of K W) B (omega arith)
  ]

-- ---- what `put_blocks` promises, of a ledger in use

course_loading : (fuel : ℕ) (lent run : List ℕ) (at : ℕ) (l : Ledger) (K : Kept) → (course_from fuel lent run at l K).ledger.loading ≡ l.loading
unfolding course_from
course_loading zero lent run at l K = refl
course_loading (suc fuel) lent run at l K =
    by-pick (λ (c : Course). c.ledger.loading ≡ l.loading) (leb (length run) at) (λ e. refl)
    (λ e. by-pick (λ (c : Course). c.ledger.loading ≡ l.loading) (stops_at (answer_from l K (frame lent run at)) at (end_of (frame_at run at) at)) (λ q. refl)
    (λ q. course_loading fuel lent run (end_of (frame_at run at) at) (ledger_with l (cells_after l K (frame lent run at))) (kept_with K (cells_after l K (frame lent run at)))))

module _ {run : List ℕ} {at : ℕ} {l : Ledger} {K : Kept} {W : Buffers} {out : List ℕ} {place : ℕ} {r : Blocks} {K' : Kept} {W' : Buffers} {out' : List ℕ}
    (p : PutsBlocks run at l K W out place r K' W' out') where
  pub puts_whole : complete l ≡ true → complete r.ledger ≡ true
  unfolding complete
  puts_whole e = rw (ap (λ (x : Ledger). x.loading) p.ledger ∙ course_loading (suc (length run)) (lengths_of K W) run at l K) e

  -- the text is all that the rest of the run says, or all but the report's lines
  pub puts_text : Ample K W → (S : Sheet) (es : List Event) (U : InUse S es l K)
      → (L : Logs) × Beside S r.ledger K' L × (text : List ℕ) × Wrote out place text out' r.place
      × (text ++ pick r.ended [] (tail_text (report_of S L)) ≡ blocks_text (suc (length run)) S run at (logs_of S es))
  puts_text A S es U =
      let t = tells_from S (Q S es l K U) W run (suc (length run)) at l K (logs_of S es) (comes S es l K U).1 A in
      (t.logs, rw (p.ledger, p.kept) t.beside, (course_of run at l K W).text, p.text, rw p.ended t.lines)
