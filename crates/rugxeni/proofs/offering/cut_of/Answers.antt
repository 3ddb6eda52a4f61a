use mathlib.Core.Path.{refl, ◌∙◌}
use native.Mathlib.Omega.{arith}
use lib.ListN.{length-set}
use Rattle.sums.proofs.LoopLaws.{filling_done, filling_more}
use Rattle.sums.specs.Seq.{tabulate}
use Rattle.rugxeni.specs.Boundary.{cut_with}
use Rattle.rugxeni.proofs.offering.cut_of.Goals as goal

pub loop-e-init : goal.loop-e-init
unfolding tabulate
loop-e-init c = (omega arith, refl, refl)

pub bounds-whole-e : goal.bounds-whole-e
bounds-whole-e c = omega (arith, c.loop-e.invariant.1)

pub overflow_step-e : goal.overflow_step-e
overflow_step-e c = omega arith

pub loop-e-smaller : goal.loop-e-smaller
loop-e-smaller c = omega arith

pub loop-e-preserved : goal.loop-e-preserved
loop-e-preserved c = (omega arith, length-set c.loop-e.whole c.loop-e.e c.number_at.result ∙ c.loop-e.invariant.1, filling_more c.loop-e.whole c.loop-e.e c.number_at.result _ (omega arith) c.loop-e.invariant.2 c.number_at.ensures)

pub returns : goal.returns
unfolding cut_with
returns c = filling_done c.loop-e.whole 16 c.loop-e.e _ c.loop-e.invariant.1 (omega arith) (omega arith) c.loop-e.invariant.2
