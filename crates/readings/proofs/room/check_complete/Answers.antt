use Rattle.readings.proofs.RoomLaws.{complete_no, complete-yes}
use Rattle.readings.proofs.room.check_complete.Goals as goal

pub returns-then-is_complete : goal.returns-then-is_complete
returns-then-is_complete c = complete-yes c.args.ledger _ c.is_complete.ensures c.if-is_complete.true

pub returns-else-is_complete : goal.returns-else-is_complete
returns-else-is_complete c = complete_no c.args.ledger _ c.is_complete.ensures c.if-is_complete.false
