use Prim.Native.Nat.{◌<◌, ◌≤◌, ℕ}
use lib.ListN.{length}
use mathlib.Core.Path.{◌≡◌}
use Rattle.ordering.specs.Table.{count_in, rank_in, usable}
use Rattle.ordering.proofs.usable_counts.Given as goal

abbrev pub invariant-loop-j : goal.invariant-loop-j
invariant-loop-j l = (length l.counts ≡ 16) × (l.j ≤ 16) × ((i : ℕ) → i < l.j → count_in l.counts i ≡ usable (rank_in l.ranks) (count_in l.full) i)
