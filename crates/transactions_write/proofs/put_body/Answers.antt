use mathlib.Core.Path.{refl}
use Rattle.transactions_write.proofs.BodyStores.{transaction_stores}
use Rattle.transactions_write.specs.Inner.{lists_in}
use Rattle.transactions_write.proofs.put_body.Goals as goal

pub returns : goal.returns
returns c =
    rw (c.put_operations.ensures, c.put_entries-2.ensures, c.put_entries.ensures, c.put_counts.ensures)
    (transaction_stores c.args.n (lists_in c.args.lists) c.requires.1 c.args.out.now _ _ refl refl)
