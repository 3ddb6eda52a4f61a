use Rattle.text.proofs.WroteLaws.{wrote_then}
use Rattle.text.specs.Text.{field}
use Rattle.text.proofs.write.put_field.Goals as goal

pub returns : goal.returns
unfolding field
returns c = wrote_then c.put_byte-next.ensures c.put_decimal.ensures
