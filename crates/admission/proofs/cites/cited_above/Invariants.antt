use mathlib.Core.Path.{◌≡◌}
use mathlib.Core.Bool.{false}
use Prim.Native.Nat.{◌≤◌, ◌-◌}
use lib.ListN.{get_or}
use Rattle.sums.specs.Test.{any_to}
use Rattle.admission.specs.Citing.{cites_in}
use Rattle.admission.proofs.CiteLaws.{is_at}
use Rattle.settlement.specs.View.{no_cite}
use Rattle.admission.proofs.cites.cited_above.Given as goal

abbrev pub invariant-loop-p : goal.invariant-loop-p
invariant-loop-p l = (l.p ≤ l.q) × (any_to l.p (is_at (λ k. get_or (cites_in l.list) k no_cite) l.x) ≡ false)

abbrev pub decreases-loop-p : goal.decreases-loop-p
decreases-loop-p l = l.q - l.p
