-- Which answer a writer gives, and what it leaves in the buffer.
-- Assumes nothing.
use Rattle.std.proofs.Common.{Ok, Err}
use Prim.Native.Nat.{◌+◌, ◌<◌, ◌≤◌, ℕ}
use borrow.Author.Tests.{le-ltb, lt-ltb}
use lib.ListN.{drop, length, length-append}
use lib.Seq.{sets, sets-eq}
use mathlib.Core.List.{List, ◌++◌, append_assoc}
use mathlib.Core.Path.{◌∙◌, ◌≡◌, ap, refl, sym}
use native.Mathlib.Omega.{arith}
use Rattle.encoding.proofs.Lengths.{length-frame}
use Rattle.encoding.specs.Body.{frame_bytes}
use Rattle.encoding.specs.Writing.{Wrote, bounded}
use Rattle.fields.proofs.NumberLaws.{length-le_bytes}
use Rattle.fields.proofs.StoreLaws.{sets_then}
use Rattle.fields.specs.Number.{le_bytes, store_number}
use Rattle.sums.proofs.TestLaws.{passed, took}
use Rattle.encoding.specs.Writing.{Written}
use Rattle.refusals.specs.Refusals.{Checked}
use Rattle.refusals.specs.declared.Refusal.{Refusal}
use Rattle.refusals.specs.declared.Refusal.TheVariants.{BodyLength, BufferShort}

module _ (kind : ℕ) (body out : List ℕ) where
  -- the stores of a frame
  stores : 6 + length body ≤ length out
      → sets (sets (sets out 0 (le_bytes 4 (2 + length body))) 4 (le_bytes 2 kind)) 6 body ≡ frame_bytes kind body ++ drop (6 + length body) out
  unfolding frame_bytes
  stores h =
      let n = length-frame kind body in
      let four = length-le_bytes 4 (2 + length body) in
      let two = length-le_bytes 2 kind in
      let six : 6 ≡ 0 + length (le_bytes 4 (2 + length body) ++ le_bytes 2 kind) = simp length-append (omega arith) in
      let all : 0 + length (frame_bytes kind body) ≡ 6 + length body = omega arith in
      rw (sets_then (le_bytes 4 (2 + length body)) (le_bytes 2 kind) out 0 4 (omega arith))
      (sets_then (le_bytes 4 (2 + length body) ++ le_bytes 2 kind) body out 0 6 six
      ∙ rw (append_assoc (le_bytes 4 (2 + length body)) (le_bytes 2 kind) body)
      (sets-eq (frame_bytes kind body) out 0 (omega arith) ∙ ap (λ (i : ℕ). frame_bytes kind body ++ drop i out) all))

  pub emit_short : length out < 6 + length body
      → Wrote (Ok tt) (frame_bytes kind body) out out (Err (BufferShort (6 + length body)))
  emit_short h =
      let t = lt-ltb (length out) (6 + length body) h in
      record { answers = rw length-frame (sym (took _ t refl)); buffer = rw length-frame (sym (took _ t refl)) }

  pub emit_whole : {l : List ℕ} → 6 + length body ≤ length out → l ≡ sets (store_number 2 (store_number 4 out 0 (2 + length body)) 4 kind) 6 body
      → Wrote (Ok tt) (frame_bytes kind body) out l (Ok (6 + length body))
  unfolding store_number
  emit_whole h q =
      let t = le-ltb (length out) (6 + length body) h in
      record { answers = rw length-frame (sym (passed _ t refl)); buffer = rw length-frame (q ∙ stores h ∙ sym (passed _ t refl)) }

-- a refusal is the answer, and the buffer keeps what it had
pub refused-answer : {v : Checked} {r : Refusal} (bytes out : List ℕ) → v ≡ Err r → Wrote v bytes out out (Err r)
refused-answer bytes out e = rw e (record { answers = refl; buffer = refl })

-- the verdict on a body that a frame can hold
pub bounded_is : (v : Checked) (b : List ℕ) → length b ≤ 8192 → bounded v b ≡ v
bounded_is (Ok _) b h = passed _ (le-ltb _ _ h) refl
bounded_is (Err r) b h = refl

module _ (kind : ℕ) (body out : List ℕ) where
  pub emitted_long : 8192 < length body → Wrote (bounded (Ok tt) body) (frame_bytes kind body) out out (Err (BodyLength 0))
  emitted_long h = refused-answer (frame_bytes kind body) out (took _ (lt-ltb _ _ h) refl)

  module _ (small : length body ≤ 8192) where
    pub emitted-short : length out < 6 + length body → Wrote (bounded (Ok tt) body) (frame_bytes kind body) out out (Err (BufferShort (6 + length body)))
    emitted-short h = rw (bounded_is (Ok tt) body small) (emit_short kind body out h)

    pub emitted-whole : {l : List ℕ} → 6 + length body ≤ length out → l ≡ sets (store_number 2 (store_number 4 out 0 (2 + length body)) 4 kind) 6 body
        → Wrote (bounded (Ok tt) body) (frame_bytes kind body) out l (Ok (6 + length body))
    emitted-whole h q = rw (bounded_is (Ok tt) body small) (emit_whole kind body out h q)

-- a frame that was put out by a verdict, and of a body, that are the ones meant
pub finished : {v w : Checked} {x b : List ℕ} {r : Written} {l : List ℕ} (kind : ℕ) (out : List ℕ) → w ≡ v → x ≡ b → length b ≤ 8192
    → Wrote (bounded v x) (frame_bytes kind x) out l r → Wrote w (frame_bytes kind b) out l r
finished {v} {w} {x} {b} {r} {l} kind out p q h e =
    let f : Wrote (bounded v b) (frame_bytes kind b) out l r = rw (← q) e in
    rw p (rw (bounded_is v b h) at f)
