use Rattle.std.proofs.Common.{ℕ, get_or, length, ◌<◌, ◌≡◌}
use Rattle.fields.proofs.bytes_at.Given as goal

abbrev pub invariant-loop-k : goal.invariant-loop-k
invariant-loop-k g l = (length l.byte-items ≡ g.row.N) × ((i : ℕ) → i < l.k → get_or l.byte-items i 0 ≡ get_or l.from i 0)
