use Prim.Native.Nat.{min, ℕ}
use lib.ListN.{length-set}
use mathlib.Core.Path.{◌∙◌, ap, refl}
use native.Mathlib.Omega.{arith}
use Rattle.ordering.proofs.Usable.{all-usable}
use Rattle.ordering.specs.Table.{climb, count_in, rank_in, usable}
use Rattle.sums.proofs.SeqLaws.{each_more}
use Rattle.ordering.proofs.usable_counts.Goals as goal

pub loop-j-init : goal.loop-j-init
loop-j-init c = (refl, omega arith, λ i h. absurd (omega arith))

pub loop-j-preserved : goal.loop-j-preserved
loop-j-preserved c =
    let a = c.args in
    let e = c.climbing.ensures ∙ ap (climb (rank_in a.ranks.now c.loop-j.j)) (c.min.ensures ∙ ap (λ (x : ℕ). min x 128) c.count_at.ensures) in (
      length-set c.loop-j.counts _ _ ∙ c.loop-j.invariant.0,
      omega arith,
      each_more (usable (rank_in a.ranks.now) (count_in a.full)) c.loop-j.counts c.loop-j.j c.climbing.result (omega (arith, c.loop-j.invariant.0)) e c.loop-j.invariant.2,
    )

pub returns : goal.returns
returns c =
    let a = c.args in
    all-usable (rank_in a.ranks.now) a.full c.loop-j.counts c.well_formed.1.0.1.0.1 c.loop-j.invariant.0 (λ i h. c.loop-j.invariant.2 i (omega arith))
