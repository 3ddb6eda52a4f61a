use mathlib.Core.Path.{◌≡◌}
use Prim.Native.Nat.{◌+◌, ◌≤◌, ◌-◌}
use lib.ListN.{length, get_or, take}
use Rattle.sums.specs.Seq.{tabulate}
use Rattle.rugxeni.proofs.numbers.heights_in.Given as goal

abbrev pub invariant-loop-j : goal.invariant-loop-j
invariant-loop-j l = (l.j ≤ 16) × (length l.heights ≡ 16) × (take l.j l.heights ≡ tabulate l.j (λ j. get_or l.numbers (6 + j) 0))

abbrev pub decreases-loop-j : goal.decreases-loop-j
decreases-loop-j l = 16 - l.j
