-- Refusals of a frame give its offset and a number of at most 7; the values of a frame of bytes are as wide as their fields.
-- Assumes nothing.
use Rattle.std.proofs.Common.{Ok, Err, Some, None}
use Prim.Native.Nat.{◌*◌, ◌+◌, ◌-◌, ◌<◌, ◌≤◌, suc, ℕ}
use lib.ListN.{drop, length}
use mathlib.Core.List.{List}
use mathlib.Core.Path.{◌≡◌, refl, subst}
use native.Mathlib.Omega.{arith}
use Rattle.fields.proofs.NumberLaws.{AreBytes-drop, take-bytes}
use Rattle.fields.specs.Number.{AreBytes, le}
use Rattle.frames.proofs.BlockLaws.{block_checked}
use Rattle.frames.specs.Balances.{check_balances}
use Rattle.frames.specs.Block.{check_block, cites_of}
use Rattle.frames.specs.Frame.{body_at, body_of, frame_at}
use Rattle.frames.specs.Header.{check_header}
use Rattle.frames.specs.Step.{after_check, after_frame, judged, loading_after, step_at}
use Rattle.frames.specs.Frame.{Framed}
use Rattle.frames.specs.declared.step.Loading.{Loading}
use Rattle.frames.specs.Step.{Step}
use Rattle.plain.proofs.FrameOffers.{parsed}
use Rattle.plain.specs.Logs.{Values}
use Rattle.plain.specs.Offers.{Parsed, block_of, parse, parsed_body, parsed_frame, wrong}
use Rattle.plain.specs.Offers as offers
use Rattle.refusals.specs.Refusals.{refusal_number, refusal_place}
use Rattle.refusals.specs.Refusals.{Checked}
use Rattle.refusals.specs.declared.Refusal.{Refusal}
use Rattle.sheets.specs.Sheet.{Sheet}
use Rattle.sums.proofs.SeqLaws.{length-tabulate}
use Rattle.sums.proofs.TestLaws.{by-pick}
use Rattle.transactions.specs.Check.{check_transaction, judge_transaction}

-- a refusal of the frame at this offset
abbrev pub OfFrame : ℕ → Refusal → Type 0
OfFrame at r = (refusal_number r ≤ 7) × (refusal_place r ≡ at)

abbrev pub CheckedOf : ℕ → Checked → Type 0
CheckedOf at (Ok _) = Unit {0}
CheckedOf at (Err r) = OfFrame at r

abbrev pub FramedOf : ℕ → Framed → Type 0
FramedOf at (Ok (Some span)) = Unit {0}
FramedOf at (Err r) = OfFrame at r
FramedOf at (Ok None) = Unit {0}

abbrev pub StepOf : ℕ → Step → Type 0
StepOf at (Ok (Some (next, end))) = Unit {0}
StepOf at (Err r) = OfFrame at r
StepOf at (Ok None) = Unit {0}

abbrev pub ParsedOf : ℕ → Parsed → Type 0
ParsedOf at (offers.block b) = Unit {0}
ParsedOf at (wrong r) = OfFrame at r

frame_of : (run : List ℕ) (at : ℕ) → FramedOf at (frame_at run at)
unfolding frame_at
frame_of run at =
    by-pick (FramedOf at) _ (λ e. tt)
    (λ e. by-pick (FramedOf at) _ (λ e. (omega arith, refl))
    (λ e. by-pick (FramedOf at) _ (λ e. (omega arith, refl))
    (λ e. by-pick (FramedOf at) _ (λ e. (omega arith, refl)) (λ e. by-pick (FramedOf at) _ (λ e. (omega arith, refl)) (λ e. tt)))))

module _ (b : List ℕ) (at : ℕ) where
  header-of : CheckedOf at (check_header b at)
  unfolding check_header
  header-of = by-pick (CheckedOf at) _ (λ e. (omega arith, refl)) (λ e. by-pick (CheckedOf at) _ (λ e. tt) (λ e. (omega arith, refl)))

  balances-of : (a : ℕ) → CheckedOf at (check_balances b at a)
  unfolding check_balances
  balances-of a = by-pick (CheckedOf at) _ (λ e. (omega arith, refl)) (λ e. by-pick (CheckedOf at) _ (λ e. tt) (λ e. (omega arith, refl)))

  transaction-of : (a g : ℕ) → CheckedOf at (check_transaction b at a g)
  unfolding check_transaction judge_transaction
  transaction-of a g =
      by-pick (CheckedOf at) _ (λ e. (omega arith, refl))
      (λ e. by-pick (CheckedOf at) _ (λ e. (omega arith, refl))
      (λ e. by-pick (CheckedOf at) _ (λ e. (omega arith, refl))
      (λ e. by-pick (CheckedOf at) _ (λ e. (omega arith, refl)) (λ e. by-pick (CheckedOf at) _ (λ e. (omega arith, refl)) (λ e. tt)))))

  block-of : (m : ℕ) → CheckedOf at (check_block b at m)
  unfolding check_block
  block-of m =
      by-pick (CheckedOf at) _ (λ e. (omega arith, refl))
      (λ e. by-pick (CheckedOf at) _ (λ e. (omega arith, refl)) (λ e. by-pick (CheckedOf at) _ (λ e. (omega arith, refl)) (λ e. tt)))

  judged_of : (s : Loading) (k : ℕ) → CheckedOf at (judged s k b at)
  unfolding judged
  judged_of s k =
      by-pick (CheckedOf at) _ (λ e. header-of)
      (λ e. by-pick (CheckedOf at) _ (λ e. balances-of s.a)
      (λ e. by-pick (CheckedOf at) _ (λ e. transaction-of s.a s.g) (λ e. by-pick (CheckedOf at) _ (λ e. block-of s.m) (λ e. (omega arith, refl)))))

  after_of : (n : Loading) (end : ℕ) (c : Checked) → CheckedOf at c → StepOf at (after_check n end c)
  after_of n end (Ok _) h = tt
  after_of n end (Err r) h = h

  framed_of : (s : Loading) (f : Framed) → FramedOf at f → StepOf at (after_frame s at b f)
  framed_of s (Ok (Some span)) h = by-pick (StepOf at) _ (λ e. (omega arith, refl)) (λ e. after_of (loading_after s span.kind b) span.end (judged s span.kind b at) (judged_of s span.kind))
  framed_of s (Err r) h = h
  framed_of s (Ok None) h = by-pick (StepOf at) _ (λ e. tt) (λ e. (omega arith, refl))

  body-of : (m : ℕ) (c : Checked) → CheckedOf at c → ParsedOf at (parsed_body b m c)
  body-of m (Ok _) h = tt
  body-of m (Err r) h = h

  parsed_of : (m : ℕ) (f : Framed) → FramedOf at f → ParsedOf at (parsed_frame m b at f)
  parsed_of m (Ok (Some span)) h = by-pick (ParsedOf at) _ (λ e. (omega arith, refl)) (λ e. body-of m (check_block b at m) (block-of m))
  parsed_of m (Err r) h = h
  parsed_of m (Ok None) h = (omega arith, refl)

-- a step of loading, and a frame read as a block
pub step_of : (run : List ℕ) (at : ℕ) (s : Loading) → StepOf at (step_at run at s)
unfolding step_at
step_of run at s = framed_of (body_of (frame_at run at) run) at s (frame_at run at) (frame_of run at)

pub parse_of : (S : Sheet) (run : List ℕ) (at : ℕ) → ParsedOf at (parse S run at)
unfolding parse
parse_of S run at = parsed_of (body_of (frame_at run at) run) at S.m (frame_at run at) (frame_of run at)

-- ---- bytes

pub two_bytes : (s : List ℕ) (at : ℕ) → AreBytes s → le 2 s at < 65536
unfolding le
two_bytes s at h = omega (arith, h at, h (suc at))

pub four_bytes : (s : List ℕ) (at : ℕ) → AreBytes s → le 4 s at < 4294967296
unfolding le
four_bytes s at h = omega (arith, h at, h (suc at), h (suc (suc at)), h (suc (suc (suc at))))

pub body_bytes : (run : List ℕ) (f : Framed) → AreBytes run → AreBytes (body_of f run)
body_bytes run (Ok (Some span)) h = take-bytes (span.end - span.start) (drop span.start run) (AreBytes-drop span.start run h)
body_bytes run (Err r) h = λ k. omega arith
body_bytes run (Ok None) h = λ k. omega arith

-- a block's values as a frame has them
pub record ValuesFit (b : Values) : Type 0 where
  pub instance : b.instance < 65536
  pub number : b.number < 65536
  pub rank : b.rank < 4294967296
  pub few : length b.cites ≤ 32

pub values_fit : (S : Sheet) (run : List ℕ) (at : ℕ) → AreBytes run → ValuesFit (block_of (parse S run at))
values_fit S run at h = by-parsed (parse S run at) refl
  where
    B : List ℕ
    B = body_at run at

    bytes : AreBytes B
    bytes = body_bytes run (frame_at run at) h

    by-parsed : (p : Parsed) → parse S run at ≡ p → ValuesFit (block_of p)
    by-parsed (wrong r) q = record { instance = omega arith; number = omega arith; rank = omega arith; few = omega arith }
    by-parsed (offers.block b) q =
        let (e, fine) = parsed S run at b q in
        subst ValuesFit e (record {
          instance = two_bytes B 0 bytes;
          number = two_bytes B 2 bytes;
          rank = four_bytes B 4 bytes;
          few = unfold cites_of in omega (arith, length-tabulate (le 2 B 8) (λ k. le 2 B (10 + 2 * S.m + 2 * k)), (block_checked B at S.m fine).few);
        })
