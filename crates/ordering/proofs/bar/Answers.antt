use Prim.Native.Nat.{◌≤◌}
use mathlib.Core.Path.{◌∙◌, ap, sym}
use native.Mathlib.Omega.{arith}
use Rattle.ordering.specs.Pairs.{first_of}
use Rattle.sums.proofs.LoopLaws.{fold_done, fold_none, fold_turn}
use Rattle.ordering.proofs.Cases.{first-both}
use Rattle.ordering.proofs.bar.Goals as goal

pub loop-j-init : goal.loop-j-init
loop-j-init c = (omega arith, c.ceiling-low.ensures.0 ∙ sym (fold_none _ _), c.ceiling-low.ensures.1)

pub loop-j-preserved : goal.loop-j-preserved
loop-j-preserved c =
    let l = c.loop-j.invariant in
    let e = c.ceiling.ensures in (
      omega arith,
      fold_turn _ _ _ _ _ l.1 (c.first_of-low.ensures ∙ ap (first_of _) e.0),
      rw c.first_of-low.ensures (first-both _ _ (λ p. p.rank ≤ 4294967296) l.2 e.1),
    )

pub returns : goal.returns
returns c = (fold_done _ _ _ _ _ (omega arith) (omega arith) c.loop-j.invariant.1, c.loop-j.invariant.2)
