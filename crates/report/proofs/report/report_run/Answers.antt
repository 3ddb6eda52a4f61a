use Rattle.std.proofs.Common.{Err, rules}
use mathlib.Core.Path.{◌∙◌, ◌≡◌, ap, sym}
use Rattle.admission.specs.Replies.{reply_to}
use Rattle.report.proofs.RoomLaws.{reports-refused, reports-text, room_ample}
use Rattle.report.proofs.report.report_run.Goals as goal

pub put_within-requires : goal.put_within-requires
put_within-requires c = (room_ample _ _ _ (ap reply_to (sym c.in_ok-check_lent.was) ∙ c.check_lent.ensures)).0

pub returns-in_err-check_lent : goal.returns-in_err-check_lent
returns-in_err-check_lent c =
    let e : c.from_residual.result ≡ Err c.in_err-check_lent.field-0.0 = search rules in
    rw e (reports-refused _ _ _ _ _ _ c.in_err-check_lent.was c.check_lent.ensures)

pub returns : goal.returns
returns c = reports-text _ _ _ _ _ _ _ _ c.shared_slice_known-1.given (ap reply_to (sym c.in_ok-check_lent.was) ∙ c.check_lent.ensures) c.put_within.ensures.0 c.put_within.ensures.1
