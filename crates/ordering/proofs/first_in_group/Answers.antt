use mathlib.Core.Path.{sym}
use native.Mathlib.Omega.{arith}
use Rattle.ordering.proofs.Cases.{firsts_turn}
use Rattle.ordering.specs.Inner.{next_pair}
use Rattle.ordering.specs.Table.{count_in, rank_in}
use Rattle.sums.proofs.LoopLaws.{fold_done, fold_none}
use Rattle.ordering.proofs.first_in_group.Goals as goal

pub loop-j-init : goal.loop-j-init
loop-j-init c = (omega arith, omega arith, fold_done _ 0 _ _ _ (omega arith) (omega arith) (sym (fold_none _ _)))

pub loop-j-preserved : goal.loop-j-preserved
loop-j-preserved c =
    let a = c.args in
    let e = c.min-end.ensures in (
      omega (arith, c.loop-j.invariant.0),
      omega (arith, c.loop-j.invariant.0, c.loop-j.invariant.1, e),
      firsts_turn a.stop (next_pair (rank_in a.ranks.now) (count_in a.full.now) a.stop (count_in a.cursors.now)) _ _ _ _ _ c.loop-j.invariant.0
          c.loop-j.invariant.2 c.next_of.ensures c.first_of-low.ensures,
    )

pub returns : goal.returns
returns c =
    let e = c.min-end.ensures in
    fold_done _ _ _ _ _ (omega (arith, c.loop-j.invariant.0, c.loop-j.invariant.1)) (omega (arith, c.loop-j.invariant.0, c.loop-j.invariant.1, e)) c.loop-j.invariant.2
