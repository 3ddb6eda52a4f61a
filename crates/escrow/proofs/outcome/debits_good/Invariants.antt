use mathlib.Core.Path.{◌≡◌}
use mathlib.Core.Bool.{true}
use Prim.Native.Nat.{◌≤◌, ◌-◌}
use Rattle.escrow.specs.Cells.{free_in}
use Rattle.escrow.specs.Inner.{debit_good}
use Rattle.transactions.specs.Body.{entry_in}
use Rattle.sheets.specs.Sheet.{sheet_in}
use Rattle.sums.specs.Test.{all_to}
use Rattle.escrow.proofs.outcome.debits_good.Given as goal

abbrev pub invariant-loop-i : goal.invariant-loop-i
invariant-loop-i l = (l.i ≤ l.n) × (all_to l.i (debit_good (sheet_in l.sheet l.z) (free_in l.sheet l.z l.cites l.good l.view l.table) (entry_in l.list) l.j) ≡ true)

abbrev pub decreases-loop-i : goal.decreases-loop-i
decreases-loop-i l = l.n - l.i
