use Rattle.text.proofs.DecimalLaws.{wrote_more, wrote_one}
use Rattle.text.proofs.write.+put_decimal.Goals as goal

pub returns-then-n-lt10 : goal.returns-then-n-lt10
returns-then-n-lt10 t c = wrote_one _ c.if-n-lt10.true c.put_byte.ensures

pub returns-else-n-lt10 : goal.returns-else-n-lt10
returns-else-n-lt10 t c = wrote_more _ c.if-n-lt10.false c.put_decimal-next.ensures c.put_byte-else-n-lt10.ensures
