use mathlib.Core.Path.{sym, ◌∙◌}
use native.Mathlib.Omega.{arith}
use Rattle.sums.proofs.LoopLaws.{all_to_done, all_to-more, all_to-none, all_to_not}
use Rattle.escrow.proofs.outcome.debits_good.Goals as goal

pub loop-i-init : goal.loop-i-init
loop-i-init c = (omega arith, all_to-none _)

pub returns-then-not-debit_good : goal.returns-then-not-debit_good
returns-then-not-debit_good c = sym (all_to_not _ _ _ c.loop-i-test.true (sym c.debit_good.ensures ∙ c.if-not-debit_good.true))

pub overflow_step-i : goal.overflow_step-i
overflow_step-i c = omega (arith, c.loop-i-test.true)

pub loop-i-smaller : goal.loop-i-smaller
loop-i-smaller c = omega (arith, c.loop-i-test.true)

pub loop-i-preserved : goal.loop-i-preserved
loop-i-preserved c = (omega (arith, c.loop-i-test.true), all_to-more _ _ c.loop-i.invariant.1 (sym c.debit_good.ensures ∙ c.if-not-debit_good.false))

pub returns : goal.returns
returns c = sym (all_to_done _ _ _ c.loop-i.invariant.0 c.loop-i-test.false c.loop-i.invariant.1)
