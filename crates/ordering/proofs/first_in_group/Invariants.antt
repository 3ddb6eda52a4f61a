use Prim.Native.Nat.{◌*◌, ◌+◌, ◌-◌, ◌≤◌, min}
use mathlib.Core.Path.{◌≡◌}
use Rattle.ordering.specs.Inner.{next_pair}
use Rattle.ordering.specs.Pairs.{first_from}
use Rattle.ordering.specs.Table.{count_in, rank_in}
use Rattle.ordering.proofs.first_in_group.Given as goal

abbrev pub invariant-loop-j : goal.invariant-loop-j
invariant-loop-j l = (l.g * 4 ≤ l.j) × (l.j - l.g * 4 ≤ min 4 (l.m - l.g * 4))
    × (l.low ≡ first_from l.stop (λ a. next_pair (rank_in l.ranks) (count_in l.full) l.stop (count_in l.cursors) (l.g * 4 + a)) (l.j - l.g * 4))
