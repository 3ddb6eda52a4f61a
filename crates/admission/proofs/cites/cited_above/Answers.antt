use native.Mathlib.Omega.{arith}
use Rattle.sums.specs.Test.{any_to}
use Rattle.sums.proofs.LoopLaws.{any_to-none}
use Rattle.admission.proofs.SearchLaws.{at_end}
use Rattle.admission.proofs.CiteLaws.{is_found, is_turn}
use Rattle.admission.proofs.cites.cited_above.Goals as goal

pub loop-p-init : goal.loop-p-init
loop-p-init c = (omega arith, any_to-none _)

pub returns-then-cite-x : goal.returns-then-cite-x
returns-then-cite-x c = is_found _ _ _ _ c.loop-p-test.true c.cite.ensures c.if-cite-x.true

pub overflow_step-p : goal.overflow_step-p
overflow_step-p c = omega arith

pub loop-p-smaller : goal.loop-p-smaller
loop-p-smaller c = omega arith

pub loop-p-preserved : goal.loop-p-preserved
loop-p-preserved c = (omega arith, is_turn _ _ _ c.loop-p.invariant.1 c.cite.ensures c.if-cite-x.false)

pub returns : goal.returns
returns c = at_end any_to _ _ _ c.loop-p.invariant.0 c.loop-p-test.false c.loop-p.invariant.1
