use Rattle.replay.proofs.OpenLaws.{opens_said}
use Rattle.report.proofs.TextLaws.{ample_sheet, reads_long, reads-refused, reads_whole}
use Rattle.report.proofs.whole.put_reading.Goals as goal

pub returns-then-run-gt65536 : goal.returns-then-run-gt65536
returns-then-run-gt65536 c = reads_long _ c.if-run-gt65536.true c.put_long.ensures

pub put_opened-requires : goal.put_opened-requires
put_opened-requires c = ((opens_said c.requires.sheet c.open_run-opened.ensures).whole c.in-Ok.is, ample_sheet _ c.sheet-1.given c.requires)

pub returns-in-Err : goal.returns-in-Err
returns-in-Err c = reads-refused _ c.if-run-gt65536.false (opens_said c.requires.sheet c.open_run-opened.ensures) c.in-Err.is c.number.ensures c.place.ensures c.put_refused.ensures

pub returns-in-Ok : goal.returns-in-Ok
returns-in-Ok c = reads_whole _ _ _ _ _ c.if-run-gt65536.false (opens_said c.requires.sheet c.open_run-opened.ensures) c.in-Ok.is c.put_opened.ensures
