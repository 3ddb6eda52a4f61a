use Prim.Native.Nat.{◌*◌, ◌-◌, ◌≤◌}
use mathlib.Core.Path.{◌≡◌}
use Rattle.transactions.specs.Body.{entry_in}
use Rattle.transactions.specs.Check.{amounts}
use Rattle.transactions.proofs.check.total.Given as goal

abbrev pub invariant-loop-k : goal.invariant-loop-k
invariant-loop-k l = (l.k ≤ l.n) × (l.sum ≡ amounts l.k (entry_in l.list)) × (l.sum ≤ l.k * 4294967295)

abbrev pub decreases-loop-k : goal.decreases-loop-k
decreases-loop-k l = l.n - l.k
