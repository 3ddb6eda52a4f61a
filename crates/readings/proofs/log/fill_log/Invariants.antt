use mathlib.Core.Path.{◌≡◌}
use Prim.Native.Nat.{◌+◌, ◌≤◌, ◌-◌}
use lib.ListN.{get_or}
use Rattle.sums.specs.Seq.{written}
use Rattle.ordering.specs.Table.{ref_in}
use Rattle.readings.proofs.log.fill_log.Given as goal

abbrev pub invariant-loop-k : goal.invariant-loop-k
invariant-loop-k l = (l.k ≤ l.n) × (l.instances ≡ written l.initial.instances 0 l.k (λ i. (ref_in (get_or l.order i 0)).instance)) × (l.numbers ≡ written l.initial.numbers 0 l.k (λ i. (ref_in (get_or l.order i 0)).index + 1))

abbrev pub decreases-loop-k : goal.decreases-loop-k
decreases-loop-k l = l.n - l.k
