use mathlib.Core.Path.{◌≡◌}
use Prim.Native.Nat.{◌≤◌, ◌-◌}
use lib.ListN.{get_or}
use Rattle.sums.specs.Seq.{written}
use Rattle.rugxeni.specs.Numbers.{numbers_of}
use Rattle.rugxeni.proofs.numbers.write_ledger.Given as goal

abbrev pub invariant-loop-i : goal.invariant-loop-i
invariant-loop-i l = (l.i ≤ 22) × (l.numbers ≡ written l.initial.numbers 0 l.i (λ i. get_or (numbers_of l.ledger) i 0))

abbrev pub decreases-loop-i : goal.decreases-loop-i
decreases-loop-i l = 22 - l.i
