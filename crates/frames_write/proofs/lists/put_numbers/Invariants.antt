use Prim.Native.Nat.{◌-◌, ◌≤◌}
use lib.ListN.{get_or, length}
use lib.Seq.{sets}
use mathlib.Core.Path.{◌≡◌}
use Rattle.fields.specs.Number.{le_bytes}
use Rattle.fields.specs.Rows.{rows_to}
use Rattle.frames_write.proofs.lists.put_numbers.Given as goal

abbrev pub invariant-loop-k : goal.invariant-loop-k
invariant-loop-k l = (l.k ≤ length l.list) × (l.out ≡ sets l.initial.out l.at (rows_to l.k (λ i. le_bytes 2 (get_or l.list i 0))))

abbrev pub decreases-loop-k : goal.decreases-loop-k
decreases-loop-k l = length l.list - l.k
