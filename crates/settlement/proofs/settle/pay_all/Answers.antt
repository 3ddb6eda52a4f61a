use mathlib.Core.Path.{sym, ◌∙◌, ap}
use native.Mathlib.Omega.{arith}
use lib.ListN.{length}
use Rattle.settlement.proofs.PayCells.{pay_to-length}
use Rattle.settlement.specs.Inner.{pay_to}
use Rattle.sums.proofs.LoopLaws.{fold_done, fold_none, fold_turn}
use Rattle.settlement.proofs.settle.pay_all.Goals as goal

pub loop-x-init : goal.loop-x-init
unfolding pay_to
loop-x-init c = (omega arith, sym (fold_none _ _))

pub pay_one-requires : goal.pay_one-requires
pay_one-requires c = (omega arith, omega (arith, ap length c.loop-x.invariant.1 ∙ pay_to-length _ _ _ _, c.requires))

pub overflow_step-x : goal.overflow_step-x
overflow_step-x c = omega arith

pub loop-x-smaller : goal.loop-x-smaller
loop-x-smaller c = omega arith

pub loop-x-preserved : goal.loop-x-preserved
unfolding pay_to
loop-x-preserved c = (omega arith, fold_turn _ _ _ _ _ c.loop-x.invariant.1 c.pay_one.ensures)

pub shape_of-table : goal.shape_of-table
shape_of-table c = ap length c.loop-x.invariant.1 ∙ pay_to-length _ _ _ _

pub returns : goal.returns
unfolding pay_to
returns c = fold_done _ _ _ _ _ (omega arith) (omega arith) c.loop-x.invariant.1
