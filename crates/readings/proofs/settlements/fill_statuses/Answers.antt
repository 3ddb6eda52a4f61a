use mathlib.Core.Path.{◌∙◌, ap}
use native.Mathlib.Omega.{arith}
use lib.ListN.{length}
use Rattle.sums.proofs.LoopLaws.{written_done, written_none}
use Rattle.settlement.proofs.CountCells.{front_turn}
use Rattle.sums.proofs.SeqLaws.{length-written}
use Rattle.readings.proofs.settlements.fill_statuses.Goals as goal

pub loop-x-init : goal.loop-x-init
loop-x-init c = (omega arith, omega arith, written_none _ _ _)

pub bounds-statuses-x : goal.bounds-statuses-x
bounds-statuses-x c = omega (arith, ap length c.loop-x.invariant.2 ∙ length-written _ _ _ _)

pub overflow_step-x : goal.overflow_step-x
overflow_step-x c = omega arith

pub loop-x-smaller : goal.loop-x-smaller
loop-x-smaller c = omega arith

pub loop-x-preserved : goal.loop-x-preserved
loop-x-preserved c = (omega arith, c.loop-x.invariant.1, front_turn _ _ _ _ _ c.loop-x.invariant.2 c.byte_at.ensures)

pub shape_of-statuses : goal.shape_of-statuses
shape_of-statuses c = ap length c.loop-x.invariant.2 ∙ length-written _ _ _ _

pub returns : goal.returns
returns c = written_done _ _ _ _ _ _ (omega arith) (omega arith) c.loop-x.invariant.2
