use native.Mathlib.Omega.{arith}
use Rattle.encoding.proofs.Lengths.{length-block}
use Rattle.encoding.specs.Body.{block_body}
use Rattle.fields.proofs.StoreLaws.{take-sets}
use Rattle.frames_write.proofs.block.block_body.Goals as goal

pub returns : goal.returns
returns c = rw c.put_body.ensures (take-sets (block_body c.args.m c.args.block c.args.cites.now) _ _ (length-block c.args.m c.args.block c.args.cites.now) (omega arith))
