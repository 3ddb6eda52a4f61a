use mathlib.Core.Path.{◌≡◌}
use Prim.Native.Nat.{◌≤◌, ◌-◌}
use lib.ListN.{length, get_or, take}
use Rattle.sums.specs.Seq.{tabulate}
use Rattle.rugxeni.proofs.offering.cut_of.Given as goal

abbrev pub invariant-loop-e : goal.invariant-loop-e
invariant-loop-e l = (l.e ≤ 16) × (length l.whole ≡ 16) × (take l.e l.whole ≡ tabulate l.e (λ j. get_or l.cut j 0))

abbrev pub decreases-loop-e : goal.decreases-loop-e
decreases-loop-e l = 16 - l.e
