use mathlib.Core.Path.{◌≡◌}
use Prim.Native.Nat.{◌+◌, ◌*◌, ◌≤◌, ◌-◌}
use lib.ListN.{get_or}
use Rattle.sums.specs.Seq.{written}
use Rattle.acceptance.proofs.store.put_cut.Given as goal

abbrev pub invariant-loop-e : goal.invariant-loop-e
invariant-loop-e l = (l.e ≤ 16) × (l.cuts ≡ written l.initial.cuts ((l.i * 128 + l.n) * 16) l.e (λ e. get_or l.cut e 0))

abbrev pub decreases-loop-e : goal.decreases-loop-e
decreases-loop-e l = 16 - l.e
