use Rattle.text.specs.Ascii.{bytes_of}
use Rattle.text.specs.Lines.{long_line}
use Rattle.text.specs.Text.{fields, line}
use Rattle.text.proofs.lines.put_long.Goals as goal

pub returns : goal.returns
unfolding long_line line fields bytes_of
returns c = c.put_word.ensures
