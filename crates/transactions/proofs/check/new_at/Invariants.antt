use Prim.Native.Nat.{◌-◌, ◌≤◌}
use lib.Dec.{eqb}
use mathlib.Core.Bool.{not, true}
use mathlib.Core.Path.{◌≡◌}
use Rattle.sums.specs.Test.{all_to}
use Rattle.transactions.specs.Body.{entry_in}
use Rattle.transactions.proofs.check.new_at.Given as goal

abbrev pub invariant-loop-j : goal.invariant-loop-j
invariant-loop-j l = (l.j ≤ l.k) × (all_to l.j (λ i. not (eqb (entry_in l.list i).account (entry_in l.list l.k).account)) ≡ true)

abbrev pub decreases-loop-j : goal.decreases-loop-j
decreases-loop-j l = l.k - l.j
