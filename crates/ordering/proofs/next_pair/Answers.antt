use mathlib.Core.Path.{sym}
use native.Mathlib.Omega.{arith}
use Rattle.sums.proofs.LoopLaws.{fold_done, fold_none, fold_turn}
use Rattle.ordering.proofs.next_pair.Goals as goal

pub loop-first-init : goal.loop-first-init
loop-first-init c = sym (fold_none _ _)

pub loop-first-preserved : goal.loop-first-preserved
loop-first-preserved c = fold_turn _ _ _ _ _ c.loop-first.invariant c.first_of-low.ensures

pub returns : goal.returns
returns c = fold_done _ _ _ _ _ (omega arith) (omega arith) c.loop-first.invariant
