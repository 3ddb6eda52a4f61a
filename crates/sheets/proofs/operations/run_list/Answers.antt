use borrow.Author.Tests.{not-false, not-true}
use mathlib.Core.Path.{refl}
use native.Mathlib.Omega.{arith}
use Rattle.sheets.proofs.OperationCells.{going_end, going_on, going-stops}
use Rattle.sheets.specs.Operations.{operate_to}
use Rattle.sheets.proofs.operations.run_list.Goals as goal

pub loop-k-init : goal.loop-k-init
unfolding operate_to
loop-k-init c = (omega arith, refl)

pub returns-then-not-ran : goal.returns-then-not-ran
returns-then-not-ran c = going-stops _ _ _ _ _ _ c.loop-k-test.true c.loop-k.invariant.1 _ c.operate_on-ran.ensures (not-true _ c.if-not-ran.true)

pub overflow_step-k : goal.overflow_step-k
overflow_step-k c = omega arith

pub loop-k-smaller : goal.loop-k-smaller
loop-k-smaller c = omega arith

pub loop-k-preserved : goal.loop-k-preserved
loop-k-preserved c = (omega arith, going_on _ _ _ _ _ _ c.loop-k-test.true c.loop-k.invariant.1 _ c.operate_on-ran.ensures (not-false _ c.if-not-ran.false))

pub returns : goal.returns
returns c = going_end _ _ _ _ _ _ c.loop-k.invariant.0 c.loop-k-test.false c.loop-k.invariant.1 refl refl
