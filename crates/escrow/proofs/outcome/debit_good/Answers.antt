use native.Mathlib.Omega.{arith}
use Rattle.escrow.proofs.AmountCells.{good_elsewhere, good_here}
use Rattle.escrow.specs.Cells.{free_in}
use Rattle.escrow.proofs.outcome.debit_good.Goals as goal

pub returns-then-home_of-j : goal.returns-then-home_of-j
returns-then-home_of-j c = good_elsewhere _ _ (free_in c.args.sheet.now c.args.z c.args.cites.now c.args.good.now c.args.view c.args.table.now) _ _ _ _ _ c.account_at-k.ensures
    c.home_of.ensures c.if-home_of-j.true

pub returns : goal.returns
returns c = good_here _ _ (free_in c.args.sheet.now c.args.z c.args.cites.now c.args.good.now c.args.view c.args.table.now) _ _ _ _ _ c.account_at-k.ensures c.home_of.ensures
    (omega (arith, c.if-home_of-j.false)) _ _ c.amount_at.ensures c.free_of.ensures
