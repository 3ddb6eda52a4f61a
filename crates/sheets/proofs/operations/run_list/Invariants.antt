use Prim.Native.Nat.{◌-◌, ◌≤◌}
use Rattle.transactions.specs.Body.{operation_in}
use Rattle.sheets.proofs.OperationCells.{Going}
use Rattle.sheets.proofs.operations.run_list.Given as goal

abbrev pub invariant-loop-k : goal.invariant-loop-k
invariant-loop-k l = (l.k ≤ l.n) × Going l.g l.n (operation_in l.list) l.initial.cells l.k l.cells

abbrev pub decreases-loop-k : goal.decreases-loop-k
decreases-loop-k l = l.n - l.k
