use mathlib.Core.Path.{sym}
use native.Mathlib.Omega.{arith}
use Rattle.escrow.specs.Inner.{debits_out}
use Rattle.sums.proofs.LoopLaws.{sum_done, sum_turn}
use Rattle.sums.proofs.SumLaws.{sum_zero}
use Rattle.escrow.proofs.amounts.debits_out.Goals as goal

pub loop-p-init : goal.loop-p-init
loop-p-init c = (omega arith, sym (sum_zero _), omega arith)

pub overflow_add-sum : goal.overflow_add-sum
overflow_add-sum c = omega (arith, c.out_at-sum.ensures.1)

pub overflow_step-p : goal.overflow_step-p
overflow_step-p c = omega arith

pub loop-p-smaller : goal.loop-p-smaller
loop-p-smaller c = omega arith

pub loop-p-preserved : goal.loop-p-preserved
loop-p-preserved c = (omega arith, sum_turn _ _ _ _ c.loop-p.invariant.1 c.out_at-sum.ensures.0, omega (arith, c.out_at-sum.ensures.1))

pub returns : goal.returns
unfolding debits_out
returns c = (sum_done _ _ _ _ c.loop-p.invariant.0 c.loop-p-test.false c.loop-p.invariant.1, omega arith)
