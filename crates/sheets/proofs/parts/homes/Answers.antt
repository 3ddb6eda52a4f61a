use mathlib.Core.Path.{sym}
use native.Mathlib.Omega.{arith}
use Rattle.sums.proofs.LoopLaws.{sum_turn, sum_done}
use Rattle.sums.proofs.SumLaws.{sum_zero}
use Rattle.sheets.proofs.parts.homes.Goals as goal

pub loop-i-init : goal.loop-i-init
loop-i-init c = (omega arith, sym (sum_zero _), omega arith)

pub overflow_add-count : goal.overflow_add-count
overflow_add-count c = omega (arith, c.first_at-count.ensures.1)

pub overflow_step-i : goal.overflow_step-i
overflow_step-i c = omega arith

pub loop-i-smaller : goal.loop-i-smaller
loop-i-smaller c = omega arith

pub loop-i-preserved : goal.loop-i-preserved
loop-i-preserved c = (omega arith, sum_turn _ _ _ _ c.loop-i.invariant.1 c.first_at-count.ensures.0, omega (arith, c.first_at-count.ensures.1))

pub returns : goal.returns
returns c = sum_done _ _ _ _ c.loop-i.invariant.0 c.loop-i-test.false c.loop-i.invariant.1
