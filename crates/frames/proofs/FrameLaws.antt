-- Which case of the framing holds, from facts about numbers, and what a frame's places are.
-- Assumes nothing.
use Rattle.std.proofs.Common.{Err, None, Ok, Option, Some}
use Prim.Native.Nat.{◌+◌, ◌<◌, ◌≤◌, ℕ}
use borrow.Author.Tests.{le-leb, le-ltb, lt-leb, lt-ltb, ltb-false}
use lib.Dec.{leb, ltb}
use lib.ListN.{length}
use mathlib.Core.List.{List}
use mathlib.Core.Path.{◌≡◌, ap, sym}
use native.Mathlib.Omega.{arith}
use Rattle.fields.specs.Number.{le}
use Rattle.frames.specs.Frame.{Framed, frame_at, whole_frame}
use Rattle.frames.specs.declared.frame.Span.{Span}
use Rattle.refusals.proofs.CheckedLaws.{none_left, ok_is}
use Rattle.sums.proofs.TestLaws.{peel}
use Rattle.sums.specs.Test.{pick}
use Rattle.refusals.specs.declared.Refusal.{Refusal}
use Rattle.refusals.specs.declared.Refusal.TheVariants.{BadLength, Short}

-- Laws: which case holds, from facts about the numbers.
module _ (run : List ℕ) (at : ℕ) where
  pub frame_end : length run ≤ at → frame_at run at ≡ Ok None
  unfolding frame_at pick
  frame_end h = simp (le-leb _ _ h)

  module _ (left : at < length run) where
    pub frame-field-short : length run < at + 4 → frame_at run at ≡ Err (Short at)
    unfolding frame_at pick
    frame-field-short h = simp (lt-leb _ _ left, lt-ltb _ _ h)

    module _ (field : at + 4 ≤ length run) where
      pub frame_low : le 4 run at < 2 → frame_at run at ≡ Err (BadLength at)
      unfolding frame_at pick
      frame_low h = simp (lt-leb _ _ left, le-ltb _ _ field, lt-ltb _ _ h)

      pub frame-high : 8194 < le 4 run at → frame_at run at ≡ Err (BadLength at)
      unfolding frame_at pick
      frame-high h =
          let low : 2 ≤ le 4 run at = omega arith in
          simp (lt-leb _ _ left, le-ltb _ _ field, le-ltb _ _ low, lt-ltb _ _ h)

      module _ (low : 2 ≤ le 4 run at) (high : le 4 run at ≤ 8194) where
        pub frame-body-short : length run < at + 4 + le 4 run at → frame_at run at ≡ Err (Short at)
        unfolding frame_at pick
        frame-body-short h =
            simp (lt-leb _ _ left, le-ltb _ _ field, le-ltb _ _ low, le-ltb _ _ high, lt-ltb _ _ h)

        pub frame-whole : at + 4 + le 4 run at ≤ length run → frame_at run at ≡ whole_frame (le 2 run (at + 4)) (at + 6) (at + 4 + le 4 run at)
        unfolding frame_at pick
        frame-whole h =
            simp (lt-leb _ _ left, le-ltb _ _ field, le-ltb _ _ low, le-ltb _ _ high, le-ltb _ _ h)

-- what a frame's places are
pub record IsFrame (run : List ℕ) (at k start end : ℕ) : Type 0 where
  pub kind : k ≡ le 2 run (at + 4)
  pub starts : start ≡ at + 6
  pub ends : end ≡ at + 4 + le 4 run at
  pub low : 2 ≤ le 4 run at
  pub high : le 4 run at ≤ 8194
  pub fits : end ≤ length run

pub frame_is : {k start end : ℕ} (run : List ℕ) (at : ℕ) → frame_at run at ≡ whole_frame k start end → IsFrame run at k start end
unfolding frame_at pick
frame_is {k} {start} {end} run at e =
    let p1 = peel (leb (length run) at) (λ q. no_end q) e in
    let p2 = peel (ltb (length run) (at + 4)) (λ q. no-refusal q) p1.1 in
    let p3 = peel (ltb (le 4 run at) 2) (λ q. no-refusal q) p2.1 in
    let p4 = peel (ltb 8194 (le 4 run at)) (λ q. no-refusal q) p3.1 in
    let p5 = peel (ltb (length run) (at + 4 + le 4 run at)) (λ q. no-refusal q) p4.1 in
    let q : ◌≡◌ {A = Span} (record { kind = le 2 run (at + 4); start = at + 6; end = at + 4 + le 4 run at }) (record { kind = k; start = start; end = end }) = cc in
    let ends : end ≡ at + 4 + le 4 run at = sym (ap (λ (x : Span). x.end) q) in
    record {
      kind = sym (ap (λ (x : Span). x.kind) q);
      starts = sym (ap (λ (x : Span). x.start) q);
      ends = ends;
      low = ltb-false _ _ p3.0;
      high = ltb-false _ _ p4.0;
      fits = omega (arith, ltb-false (length run) (at + 4 + le 4 run at) p5.0);
    }
  where
    no_end : ◌≡◌ {A = Framed} (Ok None) (whole_frame k start end) → ⊥
    no_end q = let z : ◌≡◌ {A = ℕ} 0 1 = cc in omega arith

    no-refusal : {r : Refusal} → ◌≡◌ {A = Framed} (Err r) (whole_frame k start end) → ⊥
    no-refusal q = let z : ◌≡◌ {A = ℕ} 0 1 = cc in omega arith

-- the same of an answer that is taken apart in two steps
pub span_is : {span : Span} {o : Option Span} (run : List ℕ) (at : ℕ) → frame_at run at ≡ Ok o → o ≡ Some span → IsFrame run at span.kind span.start span.end
span_is {span} run at e f = frame_is {k = span.kind} {start = span.start} {end = span.end} run at (ok_is e f)

pub ended : {o : Option Span} (run : List ℕ) (at : ℕ) → frame_at run at ≡ Ok o → ((x : Span) → o ≡ Some x → ⊥) → frame_at run at ≡ Ok None
ended run at e n = ok_is e (none_left _ n)
