use Prim.Native.Nat.{◌*◌, ◌-◌, ◌≤◌}
use mathlib.Core.Path.{◌≡◌}
use Rattle.escrow.specs.Amounts.{is_paid}
use Rattle.settlement.specs.Tables.{status_in}
use Rattle.sheets.specs.Parts.{amount_on}
use Rattle.sheets.specs.Sheet.{sheet_in, tx_at}
use Rattle.sums.specs.Sum.{sum_to}
use Rattle.sums.specs.Test.{given}
use Rattle.escrow.proofs.amounts.credits_in.Given as goal

abbrev pub invariant-loop-x : goal.invariant-loop-x
invariant-loop-x l = (l.x ≤ l.z.t) × (l.sum ≡ sum_to l.x (λ y. given (is_paid (status_in l.z l.table y)) (amount_on (tx_at (sheet_in l.sheet l.z) y).credits l.k))) ×
    (l.sum ≤ l.x * 1095216660225) × (l.z.t ≤ 65535)

abbrev pub decreases-loop-x : goal.decreases-loop-x
decreases-loop-x l = l.z.t - l.x
