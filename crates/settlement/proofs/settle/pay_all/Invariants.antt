use mathlib.Core.Path.{◌≡◌}
use Prim.Native.Nat.{◌≤◌, ◌-◌}
use Rattle.settlement.specs.Inner.{pay_to}
use Rattle.sheets.specs.Sheet.{sheet_in}
use Rattle.settlement.proofs.settle.pay_all.Given as goal

abbrev pub invariant-loop-x : goal.invariant-loop-x
invariant-loop-x l = (l.x ≤ l.z.t) × (l.table ≡ pay_to (sheet_in l.sheet l.z) l.counts l.x l.initial.table)

abbrev pub decreases-loop-x : goal.decreases-loop-x
decreases-loop-x l = l.z.t - l.x
