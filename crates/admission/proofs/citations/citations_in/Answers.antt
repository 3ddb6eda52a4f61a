use mathlib.Core.Path.{refl, ◌∙◌}
use native.Mathlib.Omega.{arith}
use lib.ListN.{length-set}
use Rattle.sums.specs.Seq.{tabulate}
use Rattle.sums.proofs.LoopLaws.{filling_more}
use Rattle.admission.proofs.CitationLaws.{cite-of, body-filled}
use Rattle.admission.proofs.citations.citations_in.Goals as goal

pub loop-k-init : goal.loop-k-init
unfolding tabulate
loop-k-init c = (omega arith, omega (arith, c.min-count.ensures), refl, refl)

pub overflow_cast-k : goal.overflow_cast-k
overflow_cast-k c = omega arith

pub offset_bounds-numbers-k : goal.offset_bounds-numbers-k
offset_bounds-numbers-k c = omega arith

pub bounds-numbers-k : goal.bounds-numbers-k
bounds-numbers-k c = omega arith

pub overflow_step-k : goal.overflow_step-k
overflow_step-k c = omega arith

pub loop-k-smaller : goal.loop-k-smaller
loop-k-smaller c = omega arith

pub loop-k-preserved : goal.loop-k-preserved
loop-k-preserved c = let l = c.loop-k in (omega arith, l.invariant.1, length-set l.numbers l.k _ ∙ l.invariant.2, filling_more l.numbers l.k _ _ (omega arith) l.invariant.3 (cite-of _ _ _ _ _ c.cites-list.ensures c.cite_at.ensures))

pub returns : goal.returns
returns c = body-filled _ _ _ _ _ _ c.u16_at.ensures c.min-count.ensures c.loop-k.invariant.2 c.loop-k.invariant.0 c.loop-k-test.false c.loop-k.invariant.3
