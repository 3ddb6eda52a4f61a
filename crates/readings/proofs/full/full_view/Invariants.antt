use Prim.Native.Nat.{◌*◌, ◌≤◌, ◌-◌}
use Rattle.sums.proofs.FilledLaws.{Filled}
use Rattle.ordering.specs.Table.{count_in}
use Rattle.readings.proofs.full.full_view.Given as goal

abbrev pub invariant-loop-j : goal.invariant-loop-j
invariant-loop-j l = (l.j ≤ 16) × Filled 16 (λ i. count_in l.blocks i * 32) l.view l.j

abbrev pub decreases-loop-j : goal.decreases-loop-j
decreases-loop-j l = 16 - l.j
