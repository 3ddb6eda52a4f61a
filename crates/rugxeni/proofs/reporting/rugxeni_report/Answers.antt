use Rattle.std.specs.Result.{result_unwrap_or}
use Rattle.admission.specs.Replies.{reply_to}
use Rattle.rugxeni.proofs.NumberLaws.{said_of_length}
use Rattle.rugxeni.proofs.reporting.rugxeni_report.Goals as goal

pub returns : goal.returns
returns c =
    let done = c.report_run-done.result in
    record { reports = (reply_to done, result_unwrap_or done 0, c.report_run-done.ensures, said_of_length done c.say_length.ensures) }
