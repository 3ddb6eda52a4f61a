use Rattle.text.proofs.StatusLaws.{wrote_tx}
use Rattle.text.specs.Ascii.{bytes_of}
use Rattle.text.proofs.lines.put_tx.Goals as goal

pub returns : goal.returns
unfolding bytes_of
returns c = wrote_tx _ _ c.put_word-word.ensures c.put_field-number.ensures c.put_status.ensures
