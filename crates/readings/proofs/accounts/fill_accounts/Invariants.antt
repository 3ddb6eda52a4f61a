use mathlib.Core.Path.{◌≡◌}
use Prim.Native.Nat.{◌≤◌, ◌-◌}
use Rattle.sums.specs.Seq.{written}
use Rattle.escrow.specs.Cells.{free_in, held_in}
use Rattle.readings.proofs.accounts.fill_accounts.Given as goal

abbrev pub invariant-loop-k : goal.invariant-loop-k
invariant-loop-k l = (l.k ≤ l.a) × (l.a ≡ l.z.a) × (l.free ≡ written l.initial.free 0 l.k (free_in l.sheet l.z l.cites l.good l.view l.table)) × (l.held ≡ written l.initial.held 0 l.k (held_in l.sheet l.z l.cites l.good l.view l.table))

abbrev pub decreases-loop-k : goal.decreases-loop-k
decreases-loop-k l = l.a - l.k
