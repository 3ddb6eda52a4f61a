use mathlib.Core.Path.{refl}
use Rattle.closing.proofs.ClosingLaws.{closed}
use Rattle.closing.proofs.closing.put_readings.Goals as goal

pub returns : goal.returns
returns c = closed c.take_settled-settled.ensures c.sizes-z.ensures c.requires c.log.ensures refl refl (rw c.unwrap_or-blocks.ensures at c.put_tail.ensures)
