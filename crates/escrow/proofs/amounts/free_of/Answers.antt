use native.Mathlib.Omega.{arith}
use Rattle.escrow.proofs.AmountCells.{free-some}
use Rattle.escrow.proofs.amounts.free_of.Goals as goal

pub overflow_add-up : goal.overflow_add-up
overflow_add-up c = omega (arith, c.balance_at.ensures.1, c.credits_in.ensures.1)

pub returns : goal.returns
returns c = free-some _ _ _ _ c.args.view _ _ _ _ c.home_of-h.ensures c.count_at.ensures _ _ _ c.balance_at.ensures.0 c.credits_in.ensures.0 c.debits_out-down.ensures.0 _ c.saturating_sub.ensures
