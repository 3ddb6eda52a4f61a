use mathlib.Core.Path.{◌≡◌}
use Prim.Native.Nat.{◌≤◌, ◌-◌}
use Rattle.plain.specs.Answer.{first_to, accepted, refuse}
use Rattle.plain.specs.Plain.{entry_off}
use Rattle.admission.specs.Replies.{cuts_only}
use Rattle.admission.specs.Citing.{values_with}
use mathlib.Core.List.{[]}
use Rattle.admission.proofs.entries.check_order.Given as goal

abbrev pub invariant-loop-e : goal.invariant-loop-e
invariant-loop-e l = (l.e ≤ l.m) × (first_to l.e (λ k. refuse (entry_off (cuts_only l.heights l.cuts) (values_with l.block []) k) 11 k) ≡ accepted)

abbrev pub decreases-loop-e : goal.decreases-loop-e
decreases-loop-e l = l.m - l.e
