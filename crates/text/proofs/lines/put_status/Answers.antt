use Rattle.text.proofs.StatusLaws.{wrote_open, wrote_paid, wrote_returned}
use Rattle.text.specs.Ascii.{bytes_of}
use Rattle.text.proofs.lines.put_status.Goals as goal

pub returns-then-status-eq0 : goal.returns-then-status-eq0
unfolding bytes_of
returns-then-status-eq0 c = wrote_open _ c.if-status-eq0.true c.put_word.ensures

pub returns-then-status-eq1 : goal.returns-then-status-eq1
unfolding bytes_of
returns-then-status-eq1 c = wrote_paid _ c.if-status-eq0.false c.if-status-eq1.true c.put_word-then-status-eq1.ensures

pub returns-else-status-eq1 : goal.returns-else-status-eq1
unfolding bytes_of
returns-else-status-eq1 c = wrote_returned _ c.if-status-eq0.false c.if-status-eq1.false c.put_word-else-status-eq1.ensures
