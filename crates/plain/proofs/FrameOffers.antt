-- A frame and the values that it says are one offer: the same answer, and the same logs afterwards.
-- Assumes nothing.
use Rattle.std.proofs.Common.{Ok, Err, None, Some}
use Prim.Native.Nat.{◌*◌, ◌+◌, ◌<◌, ◌≤◌, ℕ}
use borrow.Author.Tests.{le-ltb, lt-leb}
use lib.Dec.{eqb, leb}
use lib.ListN.{get_or, length}
use mathlib.Core.Bool.{false, not}
use mathlib.Core.List.{List}
use mathlib.Core.Path.{◌∙◌, ◌≡◌, ap, refl, sym}
use native.Mathlib.Decide.{dec_lt}
use native.Mathlib.Omega.{arith}
use Rattle.fields.specs.Number.{le}
use Rattle.frames.proofs.BlockLaws.{block_checked}
use Rattle.frames.specs.Block.{check_block, cites_of, cut_entry, cut_of}
use Rattle.frames.specs.Frame.{body_of, frame_at}
use Rattle.frames.specs.Frame.{Framed}
use Rattle.plain.proofs.AnswerLaws.{refuse_false, then_go}
use Rattle.plain.specs.Answer.{accepted, no_offer}
use Rattle.plain.specs.Logs.{Logs, Values, history_of}
use Rattle.plain.specs.Offers.{block, block_of, frame, parse, parsed_body, parsed_frame, values, values_in, wrong}
use Rattle.plain.specs.Plain.{answer, front_answer, idle_answer, next, unused_set, values_answer}
use Rattle.refusals.specs.Refusals.{Checked}
use Rattle.refusals.specs.declared.Refusal.{Refusal}
use Rattle.refusals.specs.declared.Refusal.TheVariants.{KindNotDue}
use Rattle.sheets.specs.Sheet.{Sheet}
use Rattle.sums.proofs.SeqLaws.{get_d_tabulate, length-tabulate}
use Rattle.sums.proofs.TestLaws.{any_to_never, peel, pick-false, pick_same}
use Rattle.sums.specs.Test.{both}

never : (r : Refusal) (b : Values) → wrong r ≡ block b → ⊥
never r b q = let z : ◌≡◌ {A = ℕ} 0 1 = cc in omega arith

by_check : (B : List ℕ) (m : ℕ) (b : Values) (c : Checked) → parsed_body B m c ≡ block b → (values_in B m ≡ b) × (c ≡ Ok tt)
by_check B m b (Ok _) q = (ap block_of q, refl)
by_check B m b (Err r) q = absurd (never r b q)

by_frame : (B : List ℕ) (m at : ℕ) (b : Values) (f : Framed) → parsed_frame m B at f ≡ block b → (values_in B m ≡ b) × (check_block B at m ≡ Ok tt)
by_frame B m at b (Ok (Some span)) q = by_check B m b (check_block B at m) (peel (not (eqb span.kind 4)) (never (KindNotDue at) b) q).1
by_frame B m at b (Err r) q = absurd (never r b q)
by_frame B m at b (Ok None) q = absurd (never (KindNotDue at) b q)

module _ (S : Sheet) (bytes : List ℕ) (at : ℕ) (b : Values) (p : parse S bytes at ≡ block b) where
  abbrev B : List ℕ
  B = body_of (frame_at bytes at) bytes

  pub parsed : (values_in B S.m ≡ b) × (check_block B at S.m ≡ Ok tt)
  unfolding parse
  parsed = by_frame B S.m at b (frame_at bytes at) p

  few : length (cites_of B S.m) ≤ 32
  unfolding cites_of
  few = omega (arith, length-tabulate (le 2 B 8) (λ k. le 2 B (10 + 2 * S.m + 2 * k)), (block_checked B at S.m parsed.1).few)

  -- no unused cut entry is set
  unused : (e : ℕ) → e < 16 → both (leb S.m e) (not (eqb (get_or (cut_of B S.m) e 0) 0)) ≡ false
  unfolding cut_of
  unused e l = elim (dec_lt e S.m) [
    | yes u ↦ pick-false _ _ _ (lt-leb S.m e u)
    | no u ↦
        let z : get_or (cut_of B S.m) e 0 ≡ 0 = get_d_tabulate 16 (cut_entry B S.m) e 0 l ∙ pick-false _ _ _ (le-ltb e S.m (omega arith)) in
        ap (λ (n : ℕ). both (leb S.m e) (not (eqb n 0))) z ∙ pick_same (leb S.m e) false
  ]

  front : values_answer S.m b.cut (length b.cites) ≡ accepted
  unfolding values_answer unused_set
  front =
      rw (sym parsed.0)
      (then_go _ _ accepted (refuse_false _ 5 0 (le-ltb 32 (length (cites_of B S.m)) few))
      (refuse_false _ 5 0 (any_to_never 16 _ unused)))

  module _ (L : Logs) (lent : List ℕ) (left : at < length bytes) where
    same_answer : answer S (history_of L) (frame lent bytes at) ≡ answer S (history_of L) (values lent b)
    unfolding answer idle_answer front_answer
    same_answer = rw (p, front, pick-false _ no_offer accepted (lt-leb (length bytes) at left)) refl

    pub one-offer : (answer S (history_of L) (frame lent bytes at) ≡ answer S (history_of L) (values lent b)) × (next S L (frame lent bytes at) ≡ next S L (values lent b))
    unfolding next
    one-offer = (same_answer, rw (same_answer, p) refl)
