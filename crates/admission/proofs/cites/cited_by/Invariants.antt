use mathlib.Core.Path.{◌≡◌}
use mathlib.Core.Bool.{false}
use Prim.Native.Nat.{◌≤◌, ◌-◌}
use Rattle.sums.specs.Test.{any_to}
use Rattle.admission.proofs.CiteLaws.{is_at}
use Rattle.settlement.specs.Cells.{cell_in}
use Rattle.admission.proofs.cites.cited_by.Given as goal

abbrev pub invariant-loop-p : goal.invariant-loop-p
invariant-loop-p l = (l.p ≤ l.k) × (any_to l.p (is_at (cell_in l.cites l.i) l.x) ≡ false)

abbrev pub decreases-loop-p : goal.decreases-loop-p
decreases-loop-p l = l.k - l.p
