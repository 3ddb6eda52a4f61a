use native.Mathlib.Omega.{arith}
use Rattle.encoding.proofs.Lengths.{length-balances}
use Rattle.encoding.specs.Body.{balances_body}
use Rattle.fields.proofs.StoreLaws.{take-sets}
use Rattle.frames_write.proofs.balances.balances_body.Goals as goal

pub returns : goal.returns
returns c = rw c.put_balances.ensures (take-sets (balances_body c.args.list.now) _ _ (length-balances c.args.list.now) (omega arith))
