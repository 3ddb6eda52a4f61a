use mathlib.Core.Path.{◌≡◌}
use Prim.Native.Nat.{◌+◌, ◌*◌, ◌≤◌, ◌-◌}
use lib.ListN.{get_or}
use Rattle.sums.specs.Seq.{written}
use Rattle.admission.specs.Citing.{cites_in}
use Rattle.settlement.specs.View.{no_cite}
use Rattle.acceptance.proofs.store.put_cites.Given as goal

abbrev pub invariant-loop-q : goal.invariant-loop-q
invariant-loop-q l = (l.q ≤ 32) × (l.cites ≡ written l.initial.cites (l.i * 4096 + l.n * 32) l.q (λ q. get_or (cites_in l.list) q no_cite))

abbrev pub decreases-loop-q : goal.decreases-loop-q
decreases-loop-q l = 32 - l.q
