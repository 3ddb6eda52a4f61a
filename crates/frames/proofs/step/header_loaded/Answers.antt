use mathlib.Core.Path.{refl}
use Rattle.frames.specs.Step.{header_loaded}
use Rattle.frames.proofs.step.header_loaded.Goals as goal

pub returns : goal.returns
unfolding header_loaded
returns c = rw (c.u16_at.ensures, c.u16_at-2.ensures, c.u16_at-3.ensures, c.u16_at-4.ensures) refl
