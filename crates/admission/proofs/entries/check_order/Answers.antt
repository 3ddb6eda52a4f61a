use native.Mathlib.Omega.{arith}
use Rattle.plain.specs.Answer.{first_to}
use Rattle.plain.proofs.AnswerLaws.{first_to_zero}
use Rattle.admission.proofs.SearchLaws.{first_found, first_turn, at_end}
use Rattle.admission.proofs.entries.check_order.Goals as goal

pub loop-e-init : goal.loop-e-init
loop-e-init c = (omega arith, first_to_zero _)

pub returns-then-is_off : goal.returns-then-is_off
returns-then-is_off c = first_found _ _ _ _ c.loop-e-test.true c.loop-e.invariant.1 c.is_off.ensures c.if-is_off.true

pub overflow_step-e : goal.overflow_step-e
overflow_step-e c = omega arith

pub loop-e-smaller : goal.loop-e-smaller
loop-e-smaller c = omega arith

pub loop-e-preserved : goal.loop-e-preserved
loop-e-preserved c = (omega arith, first_turn _ _ _ c.loop-e.invariant.1 c.is_off.ensures c.if-is_off.false)

pub returns : goal.returns
returns c = at_end first_to _ _ _ c.loop-e.invariant.0 c.loop-e-test.false c.loop-e.invariant.1
