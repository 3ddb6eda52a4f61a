use Rattle.std.proofs.Common.{Err, None, Ok}
use Rattle.frames.specs.Frame.{whole_frame}
use Rattle.refusals.proofs.CheckedLaws.{ok_is}
use Rattle.replay.proofs.LineLaws.{end_as}
use Rattle.replay.proofs.answers.next_frame.Goals as goal

pub returns-in-Ok-Some : goal.returns-in-Ok-Some
returns-in-Ok-Some c = end_as _ _ (whole_frame _ _ _) _ c.frame.ensures (ok_is c.in-Ok-Some.is c.in-Ok-Some.field-0-is)

pub returns-in-Err : goal.returns-in-Err
returns-in-Err c = end_as _ _ (Err _) _ c.frame.ensures c.in-Err.is

pub returns-in-Ok-None : goal.returns-in-Ok-None
returns-in-Ok-None c = end_as _ _ (Ok None) _ c.frame.ensures (ok_is c.in-Ok-None.is c.in-Ok-None.field-0-is)
