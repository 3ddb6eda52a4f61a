use mathlib.Core.Path.{sym}
use Rattle.rugxeni.proofs.CallLaws.{write-short, write_done}
use Rattle.rugxeni.proofs.writing.rugxeni_write_block.Goals as goal

pub returns-then-numbers-lt22 : goal.returns-then-numbers-lt22
returns-then-numbers-lt22 c = write-short c.if-numbers-lt22.true c.say_short.ensures

pub returns : goal.returns
returns c = write_done c.if-numbers-lt22.false c.ledger_in-ledger.result c.write_block-done.result c.ledger_in-ledger.ensures (rw (sym c.cut_of.ensures) c.write_block-done.ensures) c.say_length.ensures
