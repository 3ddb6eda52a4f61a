use Rattle.rugxeni.proofs.CallLaws.{read_short, read_done}
use Rattle.admission.specs.Replies.{reply_to}
use Rattle.rugxeni.proofs.settlements.rugxeni_settlements.Goals as goal

pub returns-then-numbers-lt22 : goal.returns-then-numbers-lt22
returns-then-numbers-lt22 c = read_short c.if-numbers-lt22.true c.say_short.ensures

pub returns : goal.returns
returns c = read_done c.if-numbers-lt22.false c.ledger_in.result (reply_to c.settlements-answer.result) 0 c.ledger_in.ensures c.settlements-answer.ensures c.say_reading.ensures
