use Prim.Native.Nat.{◌≤◌}
use lib.ListN.{drop, length}
use lib.Seq.{sets}
use mathlib.Core.Path.{◌≡◌}
use Rattle.encoding.specs.Body.{entry_bytes}
use Rattle.fields.specs.Rows.{rows_to}
use Rattle.transactions_write.specs.Values.{entry_with}
use Rattle.transactions_write.proofs.lists.put_entries.Given as goal

-- what the iterators have left, and the entries before it
abbrev pub invariant-loop-k : goal.invariant-loop-k
invariant-loop-k l =
    (l.k-iterator.iter.a.rest.now ≡ drop l.k-iterator.count l.accounts)
    × (l.k-iterator.iter.b.rest.now ≡ drop l.k-iterator.count l.amounts)
    × (l.k-iterator.count ≤ length l.accounts)
    × (l.out ≡ sets l.initial.out l.at (rows_to l.k-iterator.count (λ i. entry_bytes (entry_with l.accounts l.amounts i))))
