use mathlib.Core.Path.{◌≡◌}
use Prim.Native.Nat.{◌≤◌, ◌-◌}
use lib.ListN.{get_or}
use Rattle.sums.specs.Seq.{written}
use Rattle.readings.proofs.settlements.fill_statuses.Given as goal

abbrev pub invariant-loop-x : goal.invariant-loop-x
invariant-loop-x l = (l.x ≤ l.n) × (l.n ≡ l.t) × (l.statuses ≡ written l.initial.statuses 0 l.x (λ k. get_or l.table k 0))

abbrev pub decreases-loop-x : goal.decreases-loop-x
decreases-loop-x l = l.n - l.x
