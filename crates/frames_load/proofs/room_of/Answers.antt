use borrow.Author.Tests.{eq-eqb, ne_eqb}
use mathlib.Core.Path.{refl, sym}
use Rattle.frames_load.specs.Load.{room}
use Rattle.sums.proofs.TestLaws.{passed, took}
use Rattle.frames_load.proofs.room_of.Goals as goal

pub returns-then-s-eq0 : goal.returns-then-s-eq0
unfolding room
returns-then-s-eq0 c = sym (took _ (eq-eqb _ _ c.if-s-eq0.true) refl)

pub returns : goal.returns
unfolding room
returns c = sym (passed _ (ne_eqb _ _ c.if-s-eq0.false) refl)
