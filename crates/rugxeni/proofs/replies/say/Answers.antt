use Rattle.rugxeni.proofs.NumberLaws.{said}
use Rattle.rugxeni.proofs.replies.say.Goals as goal

pub returns : goal.returns
returns c = said _ _ _ _ _ _ c.put.ensures c.put-2.ensures
