use mathlib.Core.Path.{◌≡◌}
use Rattle.ordering.specs.Inner.{pair_in}
use Rattle.ordering.specs.Pairs.{first_from}
use Rattle.ordering.proofs.next_pair.Given as goal

abbrev pub invariant-loop-first : goal.invariant-loop-first
invariant-loop-first l = l.low ≡ first_from l.initial.low (pair_in l.first-items) l.first-index
