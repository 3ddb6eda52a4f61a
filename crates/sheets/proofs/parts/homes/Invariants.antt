use mathlib.Core.Path.{◌≡◌}
use Prim.Native.Nat.{◌≤◌, ◌-◌}
use Rattle.transactions.specs.Body.{entry_in}
use Rattle.sheets.specs.Inner.{first_at_home}
use Rattle.sheets.specs.Sheet.{sheet_in}
use Rattle.sums.specs.Sum.{sum_to}
use Rattle.sums.specs.Test.{given}
use Rattle.sheets.proofs.parts.homes.Given as goal

abbrev pub invariant-loop-i : goal.invariant-loop-i
invariant-loop-i l = (l.i ≤ l.n) × (l.count ≡ sum_to l.i (λ e. given (first_at_home (sheet_in l.sheet l.z) (entry_in l.list) e) 1)) × (l.count ≤ l.i)

abbrev pub decreases-loop-i : goal.decreases-loop-i
decreases-loop-i l = l.n - l.i
