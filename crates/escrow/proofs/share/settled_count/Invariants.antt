use Prim.Native.Nat.{◌-◌, ◌≤◌}
use mathlib.Core.Path.{◌≡◌}
use Rattle.escrow.specs.Amounts.{is_pending}
use Rattle.settlement.specs.Tables.{status_in}
use Rattle.sums.specs.Sum.{sum_to}
use Rattle.sums.specs.Test.{flip}
use Rattle.escrow.proofs.share.settled_count.Given as goal

abbrev pub invariant-loop-x : goal.invariant-loop-x
invariant-loop-x l = (l.x ≤ l.z.t) × (l.n ≡ sum_to l.x (λ i. flip (is_pending (status_in l.z l.table i)))) × (l.n ≤ l.x)

abbrev pub decreases-loop-x : goal.decreases-loop-x
decreases-loop-x l = l.z.t - l.x
