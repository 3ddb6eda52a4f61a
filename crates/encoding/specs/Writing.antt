-- What a writer answers and leaves in the caller's buffer.
-- Assumes nothing.
use Rattle.std.specs.Prelude.{ℕ, ltb, drop, length, List, ◌++◌, ◌≡◌, Ok, Err, Result}
use Rattle.sums.specs.Test.{pick}
use Rattle.refusals.specs.Refusals.{Checked}
use Rattle.refusals.specs.declared.Refusal.{Refusal}
use Rattle.refusals.specs.declared.Refusal.TheVariants.{BodyLength, BufferShort}

-- a frame's length in bytes, or why nothing was written
abbrev pub Written : Type 0
Written = Result ℕ Refusal

-- "in that order with place 0, and only then 16": a refusal of the values is the answer, then that of the room, with the frame's length as the least length; else the frame's length
abbrev pub answer_of : Checked → List ℕ → ℕ → Written
answer_of (Ok _) bytes n = pick (ltb n (length bytes)) (Err (BufferShort (length bytes))) (Ok (length bytes))
answer_of (Err r) bytes n = Err r

-- the buffer then: on a refusal as it was, else the frame's bytes at the front and nothing else changed
abbrev pub buffer_of : Checked → List ℕ → List ℕ → List ℕ
buffer_of (Ok _) bytes out = pick (ltb (length out) (length bytes)) out (bytes ++ drop (length bytes) out)
buffer_of (Err r) bytes out = out

-- a verdict, and then 4 for a body that is longer than a frame can hold, 8,192 bytes: no body that a verdict takes is
abbrev pub bounded : Checked → List ℕ → Checked
bounded (Ok _) b = pick (ltb 8192 (length b)) (Err (BodyLength 0)) (Ok tt)
bounded (Err r) b = Err r

-- what a writer promises: checked is its verdict on the values, frame are the bytes to write, before and after what the buffer holds
pub record Wrote (checked : Checked) (frame before after : List ℕ) (answer : Written) : Type 0 where
  pub answers : answer ≡ answer_of checked frame (length before)
  pub buffer : after ≡ buffer_of checked frame before
