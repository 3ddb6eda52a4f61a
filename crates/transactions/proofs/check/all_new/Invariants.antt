use Prim.Native.Nat.{◌-◌, ◌≤◌}
use mathlib.Core.Bool.{true}
use mathlib.Core.Path.{◌≡◌}
use Rattle.sums.specs.Test.{all_to}
use Rattle.transactions.specs.Body.{entry_in}
use Rattle.transactions.specs.Check.{new_at}
use Rattle.transactions.proofs.check.all_new.Given as goal

abbrev pub invariant-loop-k : goal.invariant-loop-k
invariant-loop-k l = (l.k ≤ l.n) × (all_to l.k (new_at (entry_in l.list)) ≡ true)

abbrev pub decreases-loop-k : goal.decreases-loop-k
decreases-loop-k l = l.n - l.k
