use mathlib.Core.Path.{sym, ◌∙◌, ap}
use native.Mathlib.Omega.{arith}
use lib.ListN.{length, length-set}
use Rattle.state.proofs.WorkLaws.{beyond-none, beyond_then}
use Rattle.acceptance.specs.Judging.{judged_good}
use Rattle.sums.proofs.LoopLaws.{fold_none, fold_turn, fold_done}
use Rattle.acceptance.proofs.JudgeLaws.{judgeable_still}
use Rattle.sums.proofs.LoopLaws.{fold_length}
use Rattle.acceptance.proofs.judge.judge_block.Goals as goal

pub loop-q-init : goal.loop-q-init
loop-q-init c = (omega arith, sym (fold_none _ _), beyond-none c.args.z _)

pub judge_place-requires : goal.judge_place-requires
judge_place-requires c = judgeable_still _ _ _ _ c.args.h _ _ _ (omega arith) c.requires.1 c.loop-q.invariant.2

pub loop-q-preserved : goal.loop-q-preserved
loop-q-preserved c = (omega arith, fold_turn _ _ _ _ _ c.loop-q.invariant.1 c.judge_place.ensures.0, beyond_then c.args.z _ _ _ c.loop-q.invariant.2 c.judge_place.ensures.1)

pub shape_of-good : goal.shape_of-good
unfolding judged_good
shape_of-good c = ap length c.loop-q.invariant.1 ∙ fold_length _ _ _ (λ k a. length-set a _ _)

pub shape_of-counts : goal.shape_of-counts
shape_of-counts c = c.loop-q.invariant.2.counts-length

pub shape_of-table : goal.shape_of-table
shape_of-table c = c.loop-q.invariant.2.table-length

pub shape_of-order : goal.shape_of-order
shape_of-order c = c.loop-q.invariant.2.order-length

pub returns : goal.returns
returns c = (fold_done _ _ _ _ _ c.loop-q.invariant.0 c.loop-q-test.false c.loop-q.invariant.1, c.loop-q.invariant.2)
