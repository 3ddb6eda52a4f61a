use Rattle.account_records.specs.Inner.{record_at}
use Rattle.account_records.proofs.fill.record_at.Goals as goal

pub returns : goal.returns
unfolding record_at
returns c = rw (c.amount_at.ensures, c.amount_at-2.ensures)
