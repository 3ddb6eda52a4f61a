-- What a writer answers where the buffer is short, computed.
-- Assumes nothing.
use Rattle.std.proofs.Common.{Ok, Err}
use mathlib.Core.List.{[], ◌∷◌}
use mathlib.Core.Path.{◌≡◌, refl}
use Rattle.encoding.specs.Writing.{answer_of}
use Rattle.refusals.specs.declared.Refusal.TheVariants.{BufferShort, OutOfRange}
use Rattle.sums.specs.Test.{pick}

-- three bytes and room for two: a refusal of the values comes before 16
pub values-first : answer_of (Err (OutOfRange 0)) (1 ∷ 2 ∷ 3 ∷ []) 2 ≡ Err (OutOfRange 0)
values-first = refl

pub room_then : answer_of (Ok tt) (1 ∷ 2 ∷ 3 ∷ []) 2 ≡ Err (BufferShort 3)
unfolding pick
room_then = refl
