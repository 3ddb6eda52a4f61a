-- What each clause of a writer's contract gives its caller. One law a clause: whoever loses a clause breaks its law.
-- Assumes nothing.
use Prim.Native.Nat.{ℕ}
use lib.ListN.{length}
use mathlib.Core.List.{List}
use mathlib.Core.Path.{◌≡◌}
use Rattle.encoding.specs.Writing.{Wrote, answer_of, buffer_of}
use Rattle.encoding.specs.Writing.{Written}
use Rattle.refusals.specs.Refusals.{Checked}

module _ {checked : Checked} {frame before after : List ℕ} {answer : Written} (p : Wrote checked frame before after answer) where
  -- the answer is fixed by the values and the room
  pub writer_answers : answer ≡ answer_of checked frame (length before)
  writer_answers = p.answers

  -- and every byte of the buffer with it
  pub writer_leaves : after ≡ buffer_of checked frame before
  writer_leaves = p.buffer
