use mathlib.Core.Path.{◌≡◌}
use Prim.Native.Nat.{◌≤◌, ◌-◌}
use Rattle.settlement.specs.Inner.{count_rows}
use Rattle.settlement.proofs.counts.count_view.Given as goal

abbrev pub invariant-loop-j : goal.invariant-loop-j
invariant-loop-j l = (l.j ≤ l.m) × (l.counts ≡ count_rows l.t l.cites l.good l.view l.j l.initial.counts)

abbrev pub decreases-loop-j : goal.decreases-loop-j
decreases-loop-j l = l.m - l.j
