-- Frames at any offset, with bytes before and after, written and read back; and read and written again.
-- Assumes nothing.
use Prim.Native.Nat.{◌+◌, ◌-◌, ◌<◌, ◌≤◌, ℕ}
use lib.ListN.{drop, length, length-append, length-drop, take}
use lib.Seq.{drop-append-add, drop-drop, length-take-le, take-add, take-append_seam}
use mathlib.Core.List.{List, ◌++◌, append_assoc}
use mathlib.Core.Path.{◌∙◌, ◌≡◌, ap, refl, sym}
use native.Mathlib.Nat.{add_assoc, add-sub_cancel_left}
use native.Mathlib.Omega.{arith}
use Rattle.encoding.specs.Body.{frame_bytes}
use Rattle.fields.proofs.NumberLaws.{AreBytes-drop, le-after, le_of_bytes, le_skip, length-le_bytes, piece, take-bytes}
use Rattle.fields.specs.Number.{AreBytes, le, le_bytes}
use Rattle.frames.proofs.FrameLaws.{frame_is, frame-whole}
use Rattle.frames.specs.Frame.{between, body_at, frame_at, whole_frame}

module _ (pre : List ℕ) (kind : ℕ) (body post : List ℕ) (small : kind < 65536) (short : length body ≤ 8192) where
  abbrev X : List ℕ
  X = pre ++ (le_bytes 4 (2 + length body) ++ (le_bytes 2 kind ++ (body ++ post)))

  placed : pre ++ (frame_bytes kind body ++ post) ≡ X
  unfolding frame_bytes
  placed = simp append_assoc

  length-placed : length X ≡ length pre + 6 + length body + length post
  length-placed = simp (length-append, length-le_bytes) (omega arith)

  length-field : le 4 X (length pre) ≡ 2 + length body
  length-field = le-after 4 pre _ ∙ le_of_bytes 4 (2 + length body) _ (omega arith)

  kind-field : le 2 X (length pre + 4) ≡ kind
  kind-field =
      let four = length-le_bytes 4 (2 + length body) in
      le_skip 2 pre _ 4 ∙ (rw four at (le-after 2 (le_bytes 4 (2 + length body)) (le_bytes 2 kind ++ (body ++ post)))) ∙ le_of_bytes 2 kind _ small

  framed : frame_at X (length pre) ≡ whole_frame kind (length pre + 6) (length pre + 6 + length body)
  framed =
      let n = length-placed in
      let l = length-field in
      let e = frame-whole X (length pre) (omega arith) (omega arith) (omega arith) (omega arith) (omega arith) in
      let k = kind-field in
      let ends : length pre + 4 + (2 + length body) ≡ length pre + 6 + length body = omega arith in
      e ∙ rw (k, l, ends) refl

  pub frame-written : frame_at (pre ++ (frame_bytes kind body ++ post)) (length pre) ≡ whole_frame kind (length pre + 6) (length pre + 6 + length body)
  frame-written = rw placed framed

  body-placed : body_at X (length pre) ≡ body
  unfolding le_bytes
  body-placed =
      let size : length pre + 6 + length body - (length pre + 6) ≡ length body = add-sub_cancel_left (length pre + 6) (length body) in
      let rest : drop (length pre + 6) X ≡ body ++ post = drop-append-add pre (le_bytes 4 (2 + length body) ++ (le_bytes 2 kind ++ (body ++ post))) 6 in
      rw (framed, size, rest) (take-append_seam body post)

  pub body-written : body_at (pre ++ (frame_bytes kind body ++ post)) (length pre) ≡ body
  body-written = rw placed body-placed

three_pieces : (r at : ℕ) (run : List ℕ)
    → take (4 + (2 + r)) (drop at run) ≡ take 4 (drop at run) ++ (take 2 (drop (at + 4) run) ++ take r (drop (at + 6) run))
three_pieces r at run =
    let last : drop 2 (drop (at + 4) run) ≡ drop (at + 6) run = drop-drop 2 (at + 4) run ∙ ap (λ (n : ℕ). drop n run) (add_assoc at 4 2) in
    take-add 4 (2 + r) (drop at run) ∙ rw (drop-drop 4 at run, take-add 2 r (drop (at + 4) run), last) refl

module _ {k start end : ℕ} (run : List ℕ) (at : ℕ) (b : AreBytes run) (f : frame_at run at ≡ whole_frame k start end) where
  -- a frame that was read, written again
  pub written_again : take (end - at) (drop at run) ≡ frame_bytes k (between run start end)
  unfolding frame_bytes
  written_again =
      let is = frame_is run at f in
      let r = end - start in
      let size : end - at ≡ 4 + (2 + r) = omega arith in
      let starts : start ≡ at + 6 = is.starts in
      let len : length (between run start end) ≡ r = length-take-le r (drop start run) (simp length-drop (omega arith)) in
      let field : le 4 run at ≡ 2 + length (between run start end) = omega arith in
      let one = sym (piece 4 at run b (omega arith)) in
      let two = sym (piece 2 (at + 4) run b (omega arith)) in
      let k-field : le 2 run (at + 4) ≡ k = sym is.kind in
      let back : at + 6 ≡ start = sym starts in
      rw (size, three_pieces r at run, one, two, field, k-field, back) refl

  body_is : body_at run at ≡ between run start end
  body_is = rw f refl

  -- and its content written again, by whatever reads and writes such bodies
  pub content-writing : {C : Type 0} (enc : C → List ℕ) (dec : List ℕ → C) → (enc (dec (body_at run at)) ≡ body_at run at)
      → take (end - at) (drop at run) ≡ frame_bytes k (enc (dec (body_at run at)))
  content-writing enc dec e = written_again ∙ ap (frame_bytes k) (sym body_is ∙ sym e)

pub between-bytes : (run : List ℕ) (start end : ℕ) → AreBytes run → AreBytes (between run start end)
between-bytes run start end b = take-bytes (end - start) (drop start run) (AreBytes-drop start run b)
