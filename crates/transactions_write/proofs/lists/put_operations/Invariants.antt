use Prim.Native.Nat.{◌≤◌}
use lib.ListN.{drop, length}
use lib.Seq.{sets}
use mathlib.Core.Path.{◌≡◌}
use Rattle.encoding.specs.Body.{operation_bytes}
use Rattle.fields.specs.Rows.{rows_to}
use Rattle.transactions_write.specs.Values.{operation_with}
use Rattle.transactions_write.proofs.lists.put_operations.Given as goal

-- what the iterators have left, and the operations before it
abbrev pub invariant-loop-k : goal.invariant-loop-k
invariant-loop-k l =
    (l.k-iterator.iter.a.a.rest.now ≡ drop l.k-iterator.count l.codes)
    × (l.k-iterator.iter.a.b.rest.now ≡ drop l.k-iterator.count l.registers)
    × (l.k-iterator.iter.b.rest.now ≡ drop l.k-iterator.count l.values)
    × (l.k-iterator.count ≤ length l.codes)
    × (l.out ≡ sets l.initial.out l.at (rows_to l.k-iterator.count (λ i. operation_bytes (operation_with l.codes l.registers l.values i))))
