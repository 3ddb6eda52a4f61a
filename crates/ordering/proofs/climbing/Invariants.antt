use Prim.Native.Nat.{◌≤◌}
use mathlib.Core.Path.{◌≡◌}
use Rattle.ordering.specs.Order.{last_of}
use Rattle.ordering.specs.Table.{climb, rank_in}
use Rattle.ordering.proofs.climbing.Given as goal

abbrev pub invariant-loop-n : goal.invariant-loop-n
invariant-loop-n l = (l.n ≤ l.count) × (l.last ≡ last_of (rank_in l.ranks l.instance) l.n) × (climb (rank_in l.ranks l.instance) l.n ≡ l.n)
