use Prim.Native.Nat.{◌*◌, ◌-◌, ◌≤◌}
use lib.Dec.{leb}
use mathlib.Core.Bool.{true}
use mathlib.Core.Path.{◌≡◌}
use Rattle.fields.specs.Number.{le}
use Rattle.sums.specs.Test.{all_to}
use Rattle.frames.proofs.balances.balances_ok.Given as goal

abbrev pub invariant-loop-k : goal.invariant-loop-k
invariant-loop-k l = (l.k ≤ l.a) × (all_to l.k (λ i. leb (le 8 l.b (8 * i)) 1099511627776) ≡ true)

abbrev pub decreases-loop-k : goal.decreases-loop-k
decreases-loop-k l = l.a - l.k
