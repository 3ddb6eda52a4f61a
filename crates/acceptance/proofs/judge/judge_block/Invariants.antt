use mathlib.Core.Path.{◌≡◌}
use Prim.Native.Nat.{◌+◌, ◌*◌, ◌≤◌, ◌-◌}
use Rattle.settlement.specs.Tables.{buffers}
use Rattle.sheets.specs.Sheet.{sheet_in}
use Rattle.state.specs.State.{Beyond}
use Rattle.acceptance.specs.Judging.{judged_good}
use Rattle.sums.specs.Fold.{fold_to}
use Rattle.acceptance.proofs.judge.judge_block.Given as goal

abbrev pub invariant-loop-q : goal.invariant-loop-q
invariant-loop-q l = (l.q ≤ 32) × (l.good ≡ fold_to l.q (λ k. judged_good (sheet_in l.sheet l.z) l.ranks l.cites l.cut l.i (l.h * 32 + k)) l.initial.good) × Beyond l.z
    (buffers l.initial.counts l.initial.table l.initial.order) (buffers l.counts l.table l.order)

abbrev pub decreases-loop-q : goal.decreases-loop-q
decreases-loop-q l = 32 - l.q
