use Rattle.escrow.proofs.AmountCells.{bit_so}
use Rattle.escrow.proofs.share.settled_bit.Goals as goal

pub returns : goal.returns
returns c = bit_so c.is_open.ensures _ c.from.ensures
