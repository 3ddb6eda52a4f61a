use native.Mathlib.Omega.{arith}
use Rattle.encoding.specs.Body.{transaction_body}
use Rattle.fields.proofs.StoreLaws.{take-sets}
use Rattle.transactions_write.proofs.BodyStores.{length_from}
use Rattle.transactions_write.specs.Inner.{lists_in}
use Rattle.transactions_write.specs.Values.{transaction_with}
use Rattle.transactions_write.proofs.transaction_body.Goals as goal

pub returns : goal.returns
returns c =
    let l = lists_in c.args.lists in
    rw c.put_body.ensures (take-sets (transaction_body (transaction_with c.args.n.kind l)) _ _ (length_from c.args.n l c.requires.1) (omega arith))
