use mathlib.Core.Path.{sym}
use native.Mathlib.Omega.{arith}
use Rattle.escrow.proofs.AmountCells.{credits_end}
use Rattle.escrow.specs.Amounts.{is_paid}
use Rattle.settlement.specs.Tables.{status_in}
use Rattle.sheets.specs.Parts.{amount_on}
use Rattle.sheets.specs.Sheet.{sheet_in, tx_at}
use Rattle.sums.proofs.SumLaws.{sum_next, sum_zero}
use Rattle.sums.specs.Test.{given}
use Rattle.escrow.proofs.amounts.credits_in.Goals as goal

pub loop-x-init : goal.loop-x-init
loop-x-init c = (omega arith, sym (sum_zero _), omega arith, omega arith)

pub overflow_add-sum : goal.overflow_add-sum
overflow_add-sum c = omega (arith, c.credit_if-sum.ensures.1, c.loop-x.invariant.2, c.loop-x.invariant.3)

pub overflow_step-x : goal.overflow_step-x
overflow_step-x c = omega arith

pub loop-x-smaller : goal.loop-x-smaller
loop-x-smaller c = omega arith

pub loop-x-preserved : goal.loop-x-preserved
loop-x-preserved c = (
  omega arith,
  omega (
    arith,
    c.loop-x.invariant.1,
    c.credit_if-sum.ensures.0,
    sum_next c.loop-x.x
        (λ y. given (is_paid (status_in c.args.z c.args.table.now y)) (amount_on (tx_at (sheet_in c.args.sheet.now c.args.z) y).credits c.args.k)),
  ),
  omega
      (arith, c.credit_if-sum.ensures.1, c.loop-x.invariant.2),
  c.loop-x.invariant.3,
)

pub returns : goal.returns
returns c = (credits_end _ _ _ _ _ _ c.loop-x.invariant.0 c.loop-x-test.false c.loop-x.invariant.1, omega (arith, c.loop-x.invariant.2, c.loop-x.invariant.3))
