use mathlib.Core.Path.{◌≡◌}
use mathlib.Core.Bool.{false}
use Prim.Native.Nat.{◌≤◌, ◌-◌}
use Rattle.sums.specs.Test.{any_to}
use Rattle.admission.proofs.EntryLaws.{set_at}
use Rattle.admission.proofs.entries.unused_set.Given as goal

abbrev pub invariant-loop-e : goal.invariant-loop-e
invariant-loop-e l = (l.e ≤ 16) × (any_to l.e (set_at l.m l.cut) ≡ false)

abbrev pub decreases-loop-e : goal.decreases-loop-e
decreases-loop-e l = 16 - l.e
