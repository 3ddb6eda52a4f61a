use Prim.Native.Nat.{◌-◌, ◌≤◌}
use Rattle.acceptance.specs.Judging.{view_by}
use Rattle.ordering.specs.Table.{count_in}
use Rattle.sums.proofs.FilledLaws.{Filled}
use Rattle.acceptance.proofs.judge.view_of.Given as goal

abbrev pub invariant-loop-j : goal.invariant-loop-j
invariant-loop-j l = (l.j ≤ 16) × Filled 16 (view_by (count_in l.cut) l.i l.p) l.view l.j

abbrev pub decreases-loop-j : goal.decreases-loop-j
decreases-loop-j l = 16 - l.j
