use Rattle.escrow.proofs.AmountCells.{held-some}
use Rattle.escrow.proofs.amounts.held_of.Goals as goal

pub returns : goal.returns
returns c = held-some _ _ _ _ c.args.view _ _ _ _ c.home_of-h.ensures c.count_at.ensures _ c.debits_out.ensures.0
