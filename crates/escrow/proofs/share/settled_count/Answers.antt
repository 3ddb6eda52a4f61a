use mathlib.Core.Path.{sym}
use native.Mathlib.Omega.{arith}
use Rattle.sums.proofs.LoopLaws.{sum_done, sum_turn}
use Rattle.sums.proofs.SumLaws.{sum_zero}
use Rattle.escrow.proofs.share.settled_count.Goals as goal

pub loop-x-init : goal.loop-x-init
loop-x-init c = (omega arith, sym (sum_zero _), omega arith)

pub overflow_add-n : goal.overflow_add-n
overflow_add-n c = omega (arith, c.settled_bit-n.ensures.1)

pub overflow_step-x : goal.overflow_step-x
overflow_step-x c = omega arith

pub loop-x-smaller : goal.loop-x-smaller
loop-x-smaller c = omega arith

pub loop-x-preserved : goal.loop-x-preserved
loop-x-preserved c = (omega arith, sum_turn _ _ _ _ c.loop-x.invariant.1 c.settled_bit-n.ensures.0, omega (arith, c.settled_bit-n.ensures.1))

pub returns : goal.returns
returns c = (sum_done _ _ _ _ (omega arith) (omega arith) c.loop-x.invariant.1, omega arith)
