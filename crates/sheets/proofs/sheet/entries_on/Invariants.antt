use Prim.Native.Nat.{◌*◌, ◌-◌, ◌≤◌}
use mathlib.Core.Path.{◌≡◌}
use Rattle.transactions.specs.Body.{entry_in}
use Rattle.sheets.specs.Inner.{entry_on}
use Rattle.sums.specs.Sum.{sum_to}
use Rattle.sheets.proofs.sheet.entries_on.Given as goal

abbrev pub invariant-loop-i : goal.invariant-loop-i
invariant-loop-i l = (l.i ≤ l.n) × (l.sum ≡ sum_to l.i (entry_on (entry_in l.list) l.k)) × (l.sum ≤ l.i * 4294967295)

abbrev pub decreases-loop-i : goal.decreases-loop-i
decreases-loop-i l = l.n - l.i
