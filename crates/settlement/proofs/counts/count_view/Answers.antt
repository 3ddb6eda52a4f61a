use mathlib.Core.Path.{sym, ◌∙◌, ap}
use Prim.Native.Nat.{ℕ}
use native.Mathlib.Omega.{arith}
use lib.ListN.{length}
use Rattle.settlement.proofs.CountCells.{rows_length}
use Rattle.settlement.specs.Inner.{count_row, count_rows}
use Rattle.sums.proofs.LoopLaws.{fold_done, fold_none, fold_turn}
use Rattle.settlement.proofs.counts.count_view.Goals as goal

pub loop-j-init : goal.loop-j-init
unfolding count_rows
loop-j-init c = (omega arith, sym (fold_none _ _))

pub overflow_step-j : goal.overflow_step-j
overflow_step-j c = omega arith

pub loop-j-smaller : goal.loop-j-smaller
loop-j-smaller c = omega arith

pub loop-j-preserved : goal.loop-j-preserved
unfolding count_rows
loop-j-preserved c = (
  omega arith,
  fold_turn _ _ _ _ _ c.loop-j.invariant.1 (c.count_row.ensures ∙ ap
      (λ (n : ℕ). count_row c.args.t c.args.cites.now c.args.good.now c.loop-j.j n c.loop-j.counts) c.count_at.ensures),
)

pub shape_of-counts : goal.shape_of-counts
shape_of-counts c = ap length c.loop-j.invariant.1 ∙ rows_length _ _ _ _ _ _

pub returns : goal.returns
unfolding count_rows
returns c = fold_done _ _ _ _ _ c.loop-j.invariant.0 c.loop-j-test.false c.loop-j.invariant.1
