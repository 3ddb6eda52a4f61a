use Prim.Native.Nat.{◌-◌, ◌≤◌}
use mathlib.Core.Bool.{false}
use mathlib.Core.Path.{◌≡◌}
use Rattle.transactions.specs.Body.{entry_in}
use Rattle.sheets.specs.Inner.{entry_at_home}
use Rattle.sheets.specs.Sheet.{sheet_in}
use Rattle.sums.specs.Test.{any_to}
use Rattle.sheets.proofs.parts.any_home.Given as goal

abbrev pub invariant-loop-i : goal.invariant-loop-i
invariant-loop-i l = (l.i ≤ l.n) × (any_to l.i (entry_at_home (sheet_in l.sheet l.z) (entry_in l.list) l.j) ≡ false)

abbrev pub decreases-loop-i : goal.decreases-loop-i
decreases-loop-i l = l.n - l.i
