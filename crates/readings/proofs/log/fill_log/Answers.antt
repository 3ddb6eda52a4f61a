use mathlib.Core.Path.{refl, ◌∙◌, ap}
use native.Mathlib.Omega.{arith}
use lib.ListN.{length}
use Rattle.sums.proofs.LoopLaws.{written_done, written_none}
use Rattle.settlement.proofs.CountCells.{front_turn}
use Rattle.sums.proofs.SeqLaws.{length-written}
use Rattle.readings.proofs.log.fill_log.Goals as goal

pub loop-k-init : goal.loop-k-init
loop-k-init c = (omega arith, written_none _ _ _, written_none _ _ _)

pub bounds-instances-k : goal.bounds-instances-k
bounds-instances-k c = omega (arith, ap length c.loop-k.invariant.1 ∙ length-written _ _ _ _)

pub bounds-numbers-k : goal.bounds-numbers-k
bounds-numbers-k c = omega (arith, ap length c.loop-k.invariant.2 ∙ length-written _ _ _ _)

pub overflow_step-k : goal.overflow_step-k
overflow_step-k c = omega arith

pub loop-k-smaller : goal.loop-k-smaller
loop-k-smaller c = omega arith

pub loop-k-preserved : goal.loop-k-preserved
loop-k-preserved c = (omega arith, front_turn _ _ _ _ _ c.loop-k.invariant.1 refl, front_turn _ _ _ _ _ c.loop-k.invariant.2 refl)

pub shape_of-instances : goal.shape_of-instances
shape_of-instances c = ap length c.loop-k.invariant.1 ∙ length-written _ _ _ _

pub shape_of-numbers : goal.shape_of-numbers
shape_of-numbers c = ap length c.loop-k.invariant.2 ∙ length-written _ _ _ _

pub returns : goal.returns
returns c = (written_done _ _ _ _ _ _ (omega arith) (omega arith) c.loop-k.invariant.1, written_done _ _ _ _ _ _ (omega arith) (omega arith) c.loop-k.invariant.2)
