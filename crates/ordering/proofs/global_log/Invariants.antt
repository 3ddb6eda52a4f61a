use Prim.Native.Nat.{◌-◌}
use Rattle.ordering.proofs.MergePairs.{MergingPairs}
use Rattle.ordering.specs.Pairs.{number_of}
use Rattle.ordering.specs.Table.{count_in, rank_in}
use Rattle.ordering.proofs.global_log.Given as goal

abbrev pub invariant-loop-full : goal.invariant-loop-full
invariant-loop-full l = MergingPairs l.m (rank_in l.ranks) (count_in l.full) l.stop l.initial.out l.cursors l.out l.firsts l.count l.k

abbrev pub decreases-loop-full : goal.decreases-loop-full
decreases-loop-full l = number_of l.stop - number_of l.k
