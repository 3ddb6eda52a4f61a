use mathlib.Core.Path.{sym, ◌∙◌, ap}
use native.Mathlib.Omega.{arith}
use lib.ListN.{length}
use Rattle.settlement.proofs.CountCells.{row-length}
use Rattle.settlement.specs.Inner.{count_row}
use Rattle.sums.proofs.LoopLaws.{fold_done, fold_none, fold_turn}
use Rattle.settlement.proofs.counts.count_row.Goals as goal

pub loop-p-init : goal.loop-p-init
unfolding count_row
loop-p-init c = (omega arith, sym (fold_none _ _))

pub overflow_step-p : goal.overflow_step-p
overflow_step-p c = omega arith

pub loop-p-smaller : goal.loop-p-smaller
loop-p-smaller c = omega arith

pub loop-p-preserved : goal.loop-p-preserved
unfolding count_row
loop-p-preserved c = (omega arith, fold_turn _ _ _ _ _ c.loop-p.invariant.1 c.count_at.ensures)

pub shape_of-counts : goal.shape_of-counts
shape_of-counts c = ap length c.loop-p.invariant.1 ∙ row-length _ _ _ _ _ _

pub returns : goal.returns
unfolding count_row
returns c = fold_done _ _ _ _ _ c.loop-p.invariant.0 c.loop-p-test.false c.loop-p.invariant.1
