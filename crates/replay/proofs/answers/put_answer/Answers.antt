use Rattle.replay.proofs.LineLaws.{ok_is, refused_is, none_is}
use Rattle.text.proofs.WroteLaws.{wrote_as, wrote_none}
use Rattle.replay.proofs.answers.put_answer.Goals as goal

pub returns-in-Accepted : goal.returns-in-Accepted
returns-in-Accepted c = wrote_as (ok_is _ _ _ _ _ c.block_of-block.ensures c.body.ensures.0 c.in-Accepted.is) c.put_ok.ensures

pub returns-in-Refused : goal.returns-in-Refused
returns-in-Refused c = wrote_as (refused_is _ _ _ _ _ _ c.number.ensures c.place.ensures c.in-Refused.is) c.put_refused.ensures

pub returns-in-NoByte : goal.returns-in-NoByte
returns-in-NoByte c = wrote_as (none_is _ _ _ c.in-NoByte.is) (wrote_none _ _)
