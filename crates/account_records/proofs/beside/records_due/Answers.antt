use mathlib.Core.Path.{refl, ap}
use Rattle.sums.specs.Test.{given}
use Rattle.account_records.proofs.beside.records_due.Goals as goal

pub returns-in-Err : goal.returns-in-Err
unfolding given
returns-in-Err c = rw c.in-Err.is refl

pub returns-in-Ok : goal.returns-in-Ok
unfolding given
returns-in-Ok c = rw c.in-Ok.is (ap (λ z. z.a) c.sizes-z.ensures)
