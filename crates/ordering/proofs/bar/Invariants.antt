use Prim.Native.Nat.{◌≤◌}
use mathlib.Core.Path.{◌≡◌}
use Rattle.ordering.specs.Pairs.{bar_pair}
use Rattle.ordering.specs.Table.{count_in, rank_in}
use Rattle.ordering.proofs.bar.Given as goal

abbrev pub invariant-loop-j : goal.invariant-loop-j
invariant-loop-j l = (l.j ≤ l.m) × (l.low ≡ bar_pair l.j (rank_in l.ranks) (count_in l.full)) × (l.low.rank ≤ 4294967296)
