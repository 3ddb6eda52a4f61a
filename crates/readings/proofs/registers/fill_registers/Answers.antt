use mathlib.Core.Path.{refl, ◌∙◌, ap}
use native.Mathlib.Omega.{arith}
use lib.ListN.{length}
use Rattle.sums.proofs.LoopLaws.{written_done, written_none}
use Rattle.settlement.proofs.CountCells.{front_turn}
use Rattle.sums.proofs.SeqLaws.{length-written}
use Rattle.readings.proofs.registers.fill_registers.Goals as goal

pub loop-j-init : goal.loop-j-init
loop-j-init c = (omega arith, omega arith, written_none _ _ _)

pub bounds-values-j : goal.bounds-values-j
bounds-values-j c = omega (arith, c.requires.0)

pub bounds-registers-j : goal.bounds-registers-j
bounds-registers-j c = omega (arith, ap length c.loop-j.invariant.2 ∙ length-written _ _ _ _)

pub overflow_step-j : goal.overflow_step-j
overflow_step-j c = omega arith

pub loop-j-smaller : goal.loop-j-smaller
loop-j-smaller c = omega arith

pub loop-j-preserved : goal.loop-j-preserved
loop-j-preserved c = (omega arith, c.loop-j.invariant.1, front_turn _ _ _ _ _ c.loop-j.invariant.2 refl)

pub shape_of-registers : goal.shape_of-registers
shape_of-registers c = ap length c.loop-j.invariant.2 ∙ length-written _ _ _ _

pub returns : goal.returns
returns c = written_done _ _ _ _ _ _ (omega arith) (omega arith) c.loop-j.invariant.2
