-- The text of a reading fits in 262,144 bytes: 28 for the `run` line, 33 for each frame, and 107,985 for what follows the blocks; 243,214 in all.
-- A frame after which the output goes on is a block of at least 16 bytes, so that a run of 65,536 bytes has at most 4,096 of them, and one more that ends it.
-- Assumes nothing.
use Rattle.std.proofs.Common.{Ok, Err, None, Some}
use Prim.Native.Nat.{◌*◌, ◌+◌, ◌-◌, ◌<◌, ◌≤◌, suc, zero, ℕ}
use borrow.Author.Tests.{le-leb, leb-false, lt-leb, ltb-false, ltb-true}
use lib.Dec.{leb, ltb}
use lib.ListN.{drop, length, length-append, length-take}
use mathlib.Core.Bool.{Bool, false, true}
use mathlib.Core.List.{List, [], ◌++◌}
use mathlib.Core.Path.{◌∙◌, ◌≡◌, refl, subst, sym}
use native.Mathlib.Omega.{arith}
use Rattle.demand.specs.Chain.{no_sheet}
use Rattle.extent.proofs.FrameLaws.{ParsedOf, ValuesFit, parse_of, values_fit}
use Rattle.extent.proofs.LogLaws.{LogsFit, SheetFits, empty_fit, next_fit, report_fits}
use Rattle.extent.proofs.OpeningLaws.{OpenedFits, opening_fits}
use Rattle.extent.specs.Claim.{TextFits}
use Rattle.fields.specs.Number.{AreBytes}
use Rattle.frames.proofs.BlockLaws.{block_checked}
use Rattle.frames.proofs.FrameLaws.{frame_is}
use Rattle.frames.specs.Frame.{body_at, body_of, frame_at}
use Rattle.frames.specs.Frame.{Framed}
use Rattle.plain.proofs.AnswerLaws.{refuse_pass}
use Rattle.plain.proofs.FrameOffers.{parsed}
use Rattle.plain.specs.Answer.{Answer, ◌then◌, accepted, first_to, no_offer, refuse, refused}
use Rattle.plain.specs.Logs.{Logs, Values, empty_logs, history_of}
use Rattle.plain.specs.Offers.{Parsed, block_of, offered, parse, wrong}
use Rattle.plain.specs.Offers as offers
use Rattle.plain.specs.Plain.{answer, block_answer, cite_answer, front_answer, idle_answer, last_rank, next, parsed_answer}
use Rattle.plain.specs.Report.{report_of}
use Rattle.refusals.specs.Refusals.{refusal_number, refusal_place}
use Rattle.refusals.specs.declared.Refusal.{Refusal}
use Rattle.replay.proofs.LentLaws.{least_lent}
use Rattle.replay.specs.Opening.{Opened, ended, no_loading, open_from, sheet}
use Rattle.replay.specs.Reading.{answer_line, blocks_text, end_of, ends_output, frame_offer, opened_text, reading_text}
use Rattle.sheets.specs.Sheet.{Sheet, tx_count}
use Rattle.sums.proofs.TestLaws.{by-pick, pick-false}
use Rattle.sums.specs.Test.{pick}
use Rattle.text.proofs.Bounds.{ok_short, refused-short, run_short, tail_short}
use Rattle.text.specs.Ascii.{bytes_of}
use Rattle.text.specs.Lines.{long_line}
use Rattle.text.specs.Text.{fields, line}

-- ---- answers with a short line

abbrev Small : Answer → Type 0
Small accepted = Unit {0}
Small (refused n p) = (n < 256) × (p < 18446744073709551616)
Small no_offer = Unit {0}

small_then : (a b : Answer) → Small a → (a ≡ accepted → Small b) → Small (a then b)
unfolding ◌then◌
small_then accepted b s h = h refl
small_then (refused n p) b s h = s
small_then no_offer b s h = tt

small_refuse : (t : Bool) (n p : ℕ) → n < 256 → p < 18446744073709551616 → Small (refuse t n p)
unfolding refuse
small_refuse true n p h l = (h, l)
small_refuse false n p h l = tt

small_first : (n : ℕ) (f : ℕ → Answer) → ((k : ℕ) → k < n → Small (f k)) → Small (first_to n f)
unfolding first_to
small_first zero f h = tt
small_first (suc n) f h = small_then (first_to n f) (f n) (small_first n f (λ k l. h k (omega arith))) (λ e. h n (omega arith))

line-short : (b : Values) (a : Answer) → ValuesFit b → Small a → length (answer_line b a) ≤ 33
unfolding answer_line
line-short b accepted v s = omega (arith, ok_short b.instance b.number v.instance v.number)
line-short b (refused n p) v s = refused-short n p s.0 s.1
line-short b no_offer v s = omega arith

module _ (S : Sheet) (T : SheetFits S) (L : Logs) (f : LogsFit S L) where
  last_low : (i : ℕ) → i < S.m → last_rank (history_of L) i < 18446744073709551616
  unfolding last_rank
  last_low i l =
      by-pick (λ (n : ℕ). n < 18446744073709551616) (ltb 0 ((history_of L).height i))
      (λ e. let u : (history_of L).height i - 1 < (history_of L).height i = omega (arith, ltb-true 0 ((history_of L).height i) e) in omega (arith, f.ranks i ((history_of L).height i - 1) l u))
      (λ e. omega arith)

  block_small : (b : Values) → ValuesFit b → Small (block_answer S (history_of L) b)
  unfolding block_answer cite_answer
  block_small b v =
      small_then _ _ (small_refuse _ 8 0 (omega arith) (omega arith))
      (λ e. let l : b.instance < S.m = leb-false S.m b.instance (refuse_pass _ 8 0 e) in
      small_then _ _ (small_refuse _ 17 0 (omega arith) (omega arith))
      (λ e. small_then _ _ (small_refuse _ 9 _ (omega arith) (omega (arith, f.kept.short b.instance l)))
      (λ e. small_then _ _ (small_refuse _ 10 _ (omega arith) (last_low b.instance l))
      (λ e. small_then _ _ (small_first S.m _ (λ k u. small_refuse _ 11 k (omega arith) (omega (arith, T.proper.small))))
      (λ e. small_then _ _ (small_first S.m _ (λ k u. small_refuse _ 12 k (omega arith) (omega (arith, T.proper.small))))
      (λ e. small_first (length b.cites) _ (λ q u.
      small_then _ _ (small_refuse _ 13 q (omega arith) (omega (arith, v.few)))
      (λ e. small_then _ _ (small_refuse _ 14 q (omega arith) (omega (arith, v.few))) (λ e. small_refuse _ 15 q (omega arith) (omega (arith, v.few)))))))))))

-- ---- a frame of a run

module _ (S : Sheet) (T : SheetFits S) (run : List ℕ) (bytes : AreBytes run) (short : length run ≤ 65536) (at : ℕ) (left : at < length run) (L : Logs) (f : LogsFit S L) where
  front_small : (p : Parsed) → ParsedOf at p → Small (parsed_answer p)
  front_small (offers.block b) h = tt
  front_small (wrong r) h = (omega (arith, h.0), omega (arith, h.1))

  answer_small : Small (answer S (history_of L) (frame_offer S run at))
  unfolding answer idle_answer front_answer
  answer_small =
      small_then _ _ (by-pick Small (leb (length run) at) (λ e. tt) (λ e. tt))
      (λ e. small_then _ _ (rw (least_lent S) tt)
      (λ e. small_then _ _ (front_small (parse S run at) (parse_of S run at)) (λ e. block_small S T L f (block_of (parse S run at)) (values_fit S run at bytes))))

  offer-line : length (answer_line (offered S (frame_offer S run at)) (answer S (history_of L) (frame_offer S run at))) ≤ 33
  offer-line = line-short _ _ (values_fit S run at bytes) answer_small

  -- a frame that is no block ends the output
  stopped : (r : Refusal) → parse S run at ≡ wrong r → ends_output (answer S (history_of L) (frame_offer S run at)) ≡ true
  unfolding answer idle_answer front_answer ◌then◌ ends_output
  stopped r e =
      rw (pick-false _ no_offer accepted (lt-leb (length run) at left), least_lent S, e)
      (le-leb (refusal_number r) 7 (subst (ParsedOf at) e (parse_of S run at)).0)

  by_frame : (g : Framed) → frame_at run at ≡ g → 10 ≤ length (body_of g run) → (at + 16 ≤ end_of g at) × (end_of g at ≤ length run)
  by_frame (Ok (Some span)) q h =
      let F = frame_is run at q in
      let n = length-take (span.end - span.start) (drop span.start run) in
      (omega (arith, F.starts), F.fits)
  by_frame (Err r) q h = absurd (omega arith)
  by_frame (Ok None) q h = absurd (omega arith)

  goes_far : ends_output (answer S (history_of L) (frame_offer S run at)) ≡ false → (at + 16 ≤ end_of (frame_at run at) at) × (end_of (frame_at run at) at ≤ length run)
  goes_far e = by-parsed (parse S run at) refl
    where
      by-parsed : (p : Parsed) → parse S run at ≡ p → (at + 16 ≤ end_of (frame_at run at) at) × (end_of (frame_at run at) at ≤ length run)
      by-parsed (wrong r) q = absurd (let z : ◌≡◌ {A = Bool} true false = sym (stopped r q) ∙ e in let w : ◌≡◌ {A = ℕ} 0 1 = cc in omega arith)
      by-parsed (offers.block b) q = by_frame (frame_at run at) refl (block_checked (body_at run at) at S.m (parsed S run at b q).1).fixed

-- ---- the blocks, and the whole

module _ (S : Sheet) (T : SheetFits S) (run : List ℕ) (bytes : AreBytes run) (short : length run ≤ 65536) where
  -- 33 bytes for each 16 of the run, then 33 for one frame more and 107,985 behind the blocks: 1,728,288 is 16 times that
  blocks_short : (fuel at : ℕ) (L : Logs) → LogsFit S L → 16 * length (blocks_text fuel S run at L) ≤ 33 * (length run - at) + 1728288
  unfolding blocks_text
  blocks_short zero at L f = omega arith
  blocks_short (suc fuel) at L f =
      by-pick (λ (t : List ℕ). 16 * length t ≤ 33 * (length run - at) + 1728288) (leb (length run) at)
      (λ e. omega (arith, tail_short (report_of S L) (report_fits S T L f)))
      (λ e. more (leb-false (length run) at e) (λ to L' f'. blocks_short fuel to L' f'))
    where
      more : at < length run → ((to : ℕ) (L' : Logs) → LogsFit S L' → 16 * length (blocks_text fuel S run to L') ≤ 33 * (length run - to) + 1728288)
          → 16 * length (answer_line (offered S (frame_offer S run at)) (answer S (history_of L) (frame_offer S run at))
          ++ pick (ends_output (answer S (history_of L) (frame_offer S run at))) [] (blocks_text fuel S run (end_of (frame_at run at) at) (next S L (frame_offer S run at))))
          ≤ 33 * (length run - at) + 1728288
      more left ih =
          let own = offer-line S T run bytes short at left L f in
          rw (length-append (answer_line (offered S (frame_offer S run at)) (answer S (history_of L) (frame_offer S run at)))
          (pick (ends_output (answer S (history_of L) (frame_offer S run at))) [] (blocks_text fuel S run (end_of (frame_at run at) at) (next S L (frame_offer S run at)))))
          (by-pick (λ (t : List ℕ). 16 * (length (answer_line (offered S (frame_offer S run at)) (answer S (history_of L) (frame_offer S run at))) + length t) ≤ 33 * (length run - at) + 1728288)
          (ends_output (answer S (history_of L) (frame_offer S run at))) (λ e. omega (arith, own))
          (λ e.
          let far = goes_far S T run bytes short at left L f e in
          let rest = ih (end_of (frame_at run at) at) (next S L (frame_offer S run at)) (next_fit S T.proper L (frame_offer S run at) (values_fit S run at bytes).rank f) in
          omega (arith, own, rest, far.0, far.1)))

opened-short : (run : List ℕ) → AreBytes run → length run ≤ 65536 → (o : Opened) → OpenedFits o → length (opened_text run o) ≤ 243214
unfolding opened_text
opened-short run bytes short (ended r) h = omega (arith, refused-short (refusal_number r) (refusal_place r) h.0 h.1)
opened-short run bytes short (sheet S at) T =
    simp length-append
    (omega (
      arith,
      run_short S.m S.a S.g (tx_count S) (omega (arith, T.proper.small)) (omega (arith, T.proper.accounts)) (omega (arith, T.proper.registers)) (omega (arith, T.proper.few)),
      blocks_short S T run bytes short (suc (length run)) at (empty_logs S) (empty_fit S),
    ))

long_short : length long_line ≤ 5
unfolding long_line line fields bytes_of
long_short = omega arith

pub text_fits : TextFits
unfolding reading_text
text_fits run bytes =
    by-pick (λ (t : List ℕ). length t ≤ 262144) (ltb 65536 (length run)) (λ e. omega (arith, long_short))
    (λ e. let short = ltb-false 65536 (length run) e in omega (arith, opened-short run bytes short (open_from (suc (length run)) run 0 no_loading no_sheet) (opening_fits run bytes short)))
