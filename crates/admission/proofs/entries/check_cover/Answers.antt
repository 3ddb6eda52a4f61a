use mathlib.Core.Path.{ap₂}
use native.Mathlib.Omega.{arith}
use Rattle.plain.specs.Answer.{first_to}
use Rattle.plain.proofs.AnswerLaws.{first_to_zero}
use lib.Dec.{ltb}
use borrow.Author.Tests.{lt-ltb, le-ltb}
use Rattle.admission.proofs.SearchLaws.{first_found, first_turn, at_end}
use Rattle.admission.proofs.entries.check_cover.Goals as goal

pub loop-e-init : goal.loop-e-init
loop-e-init c = (omega arith, first_to_zero _)

pub returns-then-count_at : goal.returns-then-count_at
returns-then-count_at c = first_found _ _ _ _ c.loop-e-test.true c.loop-e.invariant.1 (ap₂ ltb c.count_at.ensures c.count_at-in-loop-e.ensures) (lt-ltb c.count_at.result c.count_at-in-loop-e.result (omega arith))

pub overflow_step-e : goal.overflow_step-e
overflow_step-e c = omega arith

pub loop-e-smaller : goal.loop-e-smaller
loop-e-smaller c = omega arith

pub loop-e-preserved : goal.loop-e-preserved
loop-e-preserved c = (omega arith, first_turn _ _ _ c.loop-e.invariant.1 (ap₂ ltb c.count_at.ensures c.count_at-in-loop-e.ensures) (le-ltb c.count_at.result c.count_at-in-loop-e.result (omega arith)))

pub returns : goal.returns
returns c = at_end first_to _ _ _ c.loop-e.invariant.0 c.loop-e-test.false c.loop-e.invariant.1
