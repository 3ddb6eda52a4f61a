-- The view of a citation, computed: how many places of each instance's row it holds.
-- Assumes nothing.
use Prim.Native.Nat.{◌*◌}
use lib.Dec.{eqb}
use mathlib.Core.Path.{◌≡◌, refl}
use Rattle.escrow.specs.Outcome.{History, view_of}
use Rattle.sums.specs.Test.{pick}

-- three blocks in each log; the second block of a log has 3 at entry 0 of its cut, the third has 6
abbrev history : History
history = record { height = λ i. 3; rank = λ i n. n; entry = λ i n e. pick (eqb e 0) (3 * n) 0; cell = λ i p. 0 }

-- of its own instance the places before it, and not its own: place 33 is the second of block 2
pub own_row : view_of history 1 33 1 ≡ 33
unfolding pick view_of
own_row = refl

-- of another one as many blocks as the cut of the citation's own block says, 32 places each
pub other_row : view_of history 1 33 0 ≡ 96
unfolding pick view_of
other_row = refl
