use Prim.Native.Nat.{◌-◌, ◌≤◌}
use mathlib.Core.Bool.{true}
use mathlib.Core.Path.{◌≡◌}
use Rattle.sums.specs.Test.{all_to}
use Rattle.transactions.specs.Body.{entry_in}
use Rattle.transactions.specs.Check.{entry_ok}
use Rattle.transactions.proofs.check.entries_ok.Given as goal

abbrev pub invariant-loop-k : goal.invariant-loop-k
invariant-loop-k l = (l.k ≤ l.n) × (all_to l.k (λ j. entry_ok l.a (entry_in l.list j)) ≡ true)

abbrev pub decreases-loop-k : goal.decreases-loop-k
decreases-loop-k l = l.n - l.k
