use mathlib.Core.Path.{◌≡◌}
use Prim.Native.Nat.{◌≤◌, ◌-◌}
use lib.ListN.{get_or}
use Rattle.plain.specs.Answer.{first_to, accepted, refuse}
use lib.Dec.{ltb}
use Rattle.ordering.specs.Table.{count_in}
use Rattle.admission.proofs.entries.check_cover.Given as goal

abbrev pub invariant-loop-e : goal.invariant-loop-e
invariant-loop-e l = (l.e ≤ l.m) × (first_to l.e (λ k. refuse (ltb (count_in l.heights k) (get_or l.cut k 0)) 12 k) ≡ accepted)

abbrev pub decreases-loop-e : goal.decreases-loop-e
decreases-loop-e l = l.m - l.e
