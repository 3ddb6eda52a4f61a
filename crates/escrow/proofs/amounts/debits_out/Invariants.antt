use mathlib.Core.Path.{◌≡◌}
use Prim.Native.Nat.{◌*◌, ◌≤◌, ◌-◌}
use Rattle.escrow.specs.Inner.{counts_paid, out_at}
use Rattle.settlement.specs.Cells.{rows_in}
use Rattle.settlement.specs.Tables.{status_in}
use Rattle.sheets.specs.Sheet.{sheet_in}
use Rattle.sums.specs.Sum.{sum_to}
use mathlib.Core.List.{[]}
use Rattle.escrow.proofs.amounts.debits_out.Given as goal

abbrev pub invariant-loop-p : goal.invariant-loop-p
invariant-loop-p l = (l.p ≤ l.n) × (l.sum ≡ sum_to l.p (out_at (sheet_in l.sheet l.z) (rows_in [] l.cites l.good) (status_in l.z l.table) (counts_paid l.counted) l.h l.k)) ×
    (l.sum ≤ l.p * 1095216660225)

abbrev pub decreases-loop-p : goal.decreases-loop-p
decreases-loop-p l = l.n - l.p
