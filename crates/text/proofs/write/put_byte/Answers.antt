use Rattle.text.proofs.WroteLaws.{wrote_past}
use Rattle.text.proofs.write.put_byte.Goals as goal

pub returns-else-at-out : goal.returns-else-at-out
returns-else-at-out c = wrote_past _ _ _ c.if-at-out.false
