use native.Mathlib.Omega.{arith}
use Rattle.sums.specs.Test.{any_to}
use Rattle.sums.proofs.LoopLaws.{any_to-none}
use Rattle.plain.specs.Plain.{unused_set}
use Rattle.admission.proofs.SearchLaws.{any_found, any_turn, at_end}
use Rattle.admission.proofs.entries.unused_set.Goals as goal

pub loop-e-init : goal.loop-e-init
loop-e-init c = (omega arith, any_to-none _)

pub returns-then-is_set : goal.returns-then-is_set
unfolding unused_set
returns-then-is_set c = any_found _ _ _ c.loop-e-test.true c.is_set.ensures c.if-is_set.true

pub overflow_step-e : goal.overflow_step-e
overflow_step-e c = omega arith

pub loop-e-smaller : goal.loop-e-smaller
loop-e-smaller c = omega arith

pub loop-e-preserved : goal.loop-e-preserved
loop-e-preserved c = (omega arith, any_turn _ _ c.loop-e.invariant.1 c.is_set.ensures c.if-is_set.false)

pub returns : goal.returns
unfolding unused_set
returns c = at_end any_to _ _ _ c.loop-e.invariant.0 c.loop-e-test.false c.loop-e.invariant.1
