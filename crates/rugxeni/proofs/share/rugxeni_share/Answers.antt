use Rattle.std.specs.Result.{result_unwrap_or}
use Rattle.rugxeni.proofs.CallLaws.{read_short, read_done}
use Rattle.admission.specs.Replies.{reply_to}
use Rattle.rugxeni.proofs.share.rugxeni_share.Goals as goal

pub returns-then-numbers-lt22 : goal.returns-then-numbers-lt22
returns-then-numbers-lt22 c = read_short c.if-numbers-lt22.true c.say_short.ensures

pub returns : goal.returns
returns c = read_done c.if-numbers-lt22.false c.ledger_in.result (reply_to c.share-done.result) (result_unwrap_or c.share-done.result 0) c.ledger_in.ensures c.share-done.ensures c.say_number.ensures
