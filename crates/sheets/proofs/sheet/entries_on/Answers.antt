use mathlib.Core.Path.{◌∙◌, sym}
use native.Mathlib.Omega.{arith}
use Rattle.transactions.specs.Body.{entry_in}
use Rattle.sheets.specs.Inner.{entries_on, entry_on}
use Rattle.sums.proofs.SumLaws.{sum_end, sum_next, sum_zero}
use Rattle.sheets.proofs.sheet.entries_on.Goals as goal

pub loop-i-init : goal.loop-i-init
loop-i-init c = (omega arith, sym (sum_zero _), omega arith)

pub overflow_add-sum : goal.overflow_add-sum
overflow_add-sum c = omega (arith, c.entry_on-sum.ensures.1)

pub overflow_step-i : goal.overflow_step-i
overflow_step-i c = omega arith

pub loop-i-smaller : goal.loop-i-smaller
loop-i-smaller c = omega arith

pub loop-i-preserved : goal.loop-i-preserved
loop-i-preserved c = (omega arith, omega (arith, c.entry_on-sum.ensures.0, sum_next c.loop-i.i (entry_on (entry_in c.args.list.now) c.args.k)), omega (arith, c.entry_on-sum.ensures.1))

pub returns : goal.returns
unfolding entries_on
returns c = (c.loop-i.invariant.1 ∙ sum_end _ _ _ c.loop-i.invariant.0 c.loop-i-test.false, omega arith)
