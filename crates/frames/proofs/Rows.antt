-- Where the body of a frame stands in its run, computed.
-- Assumes nothing.
use Prim.Native.Nat.{ℕ}
use mathlib.Core.List.{List, [], ◌∷◌}
use mathlib.Core.Path.{◌≡◌, refl}
use Rattle.fields.specs.Number.{le}
use Rattle.frames.specs.Frame.{body_at, frame_at, start_of}
use Rattle.sums.specs.Test.{pick}

-- a byte before the frame, then a length of 4, kind 7 and a body of two bytes
abbrev run : List ℕ
run = 9 ∷ 4 ∷ 0 ∷ 0 ∷ 0 ∷ 7 ∷ 0 ∷ 8 ∷ 6 ∷ []

pub body_start : start_of (frame_at run 1) ≡ 7
unfolding le pick frame_at
body_start = refl

pub body_bytes : body_at run 1 ≡ 8 ∷ 6 ∷ []
unfolding le pick frame_at
body_bytes = refl
