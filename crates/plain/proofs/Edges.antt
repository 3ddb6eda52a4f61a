-- Each row of the table of edges holds: computed from the rules.
-- Assumes nothing.
use mathlib.Core.Path.{refl}
use Rattle.escrow.specs.Amounts.{covered_by, credited, debit_at, free, free_by, held, held_by, part_good, reserved}
use Rattle.escrow.specs.Outcome.{depth, full_view, judge, judged_to, outcome, rows_of, view_of}
use Rattle.escrow.specs.Report.{rows_all}
use Rattle.escrow.specs.Share.{nearest, share_of, thousandths}
use Rattle.frames.specs.Frame.{frame_at}
use Rattle.frames.specs.Header.{header_ok}
use Rattle.frames.specs.Balances.{balances_ok}
use Rattle.transactions.specs.Check.{entry_ok, operation_ok, counts_ok, in_range, accounts_once, balanced, judge_transaction}
use Rattle.ordering.specs.Order.{entry_at, global_log, log_to, seek}
use Rattle.plain.specs.Answer.{◌then◌, first_to, refuse}
use Rattle.plain.specs.Edges.{Holds, bar_all}
use Rattle.plain.specs.EdgesFurther.{table}
use Rattle.plain.specs.EdgesShare.{Prints, figures}
use Rattle.plain.specs.Logs.{appended, history_of}
use Rattle.plain.specs.Offers.{offer_needs, parse}
use Rattle.plain.specs.Plain.{values_answer, answer, answers, answers_from, block_answer, cite_answer, cited_before, entry_off, front_answer, idle_answer, last_entry, last_rank, ledger, lent_answer, next, unused_set}
use Rattle.plain.specs.Report.{report_by, report_of}
use Rattle.sums.specs.Least.{least_from}
use Rattle.sums.specs.Seq.{All, tabulate}
use Rattle.sums.specs.Sum.{sum_to}
use Rattle.sums.specs.Test.{all_to, any_to, given, pick}
use Rattle.settlement.specs.Books.{booked, run_all, settled, step, counted}
use Rattle.sheets.specs.Operations.{operate, operate_to, operated}
use Rattle.sheets.specs.Proper.{is_proper}
use Rattle.settlement.specs.Settlement.{contracts, is_cite, is_fail, payment, cited, failed, status}
use Rattle.sheets.specs.Parts.{amount_on, has_part, home, is_contract, parts}
use Rattle.settlement.specs.View.{block_events, event_at, log_events, view_log, view_sum}
use Rattle.frames.specs.Block.{check_block, cites_of, cut_of}
use Rattle.fields.specs.Number.{le}

infixr 20 ◌&◌
abbrev pub ◌&◌ : {A B : Type 0} → A → B → A × B
a & b = (a, b)

pub edges : All Holds table
unfolding tabulate sum_to pick given any_to all_to least_from seek entry_at log_to global_log credited debit_at reserved held_by free_by free held part_good covered_by operate operate_to operated counted settled booked step run_all rows_of view_of full_view judge judged_to depth outcome header_ok balances_ok entry_ok operation_ok counts_ok in_range accounts_once balanced judge_transaction is_proper rows_all share_of thousandths nearest is_cite is_fail cited failed payment contracts status home amount_on has_part parts is_contract event_at view_sum view_log block_events log_events check_block cites_of cut_of le frame_at ◌then◌ refuse first_to bar_all appended history_of offer_needs parse lent_answer unused_set front_answer values_answer last_rank last_entry entry_off cited_before cite_answer block_answer idle_answer answer next answers_from answers ledger report_by report_of
edges =
    record { sound = refl; answered = refl; barred = refl; read = refl }
    & record { sound = refl; answered = refl; barred = refl; read = refl }
    & record { sound = refl; answered = refl; barred = refl; read = refl }
    & record { sound = refl; answered = refl; barred = refl; read = refl }
    & record { sound = refl; answered = refl; barred = refl; read = refl }
    & record { sound = refl; answered = refl; barred = refl; read = refl }
    & record { sound = refl; answered = refl; barred = refl; read = refl }
    & record { sound = refl; answered = refl; barred = refl; read = refl }
    & record { sound = refl; answered = refl; barred = refl; read = refl }
    & record { sound = refl; answered = refl; barred = refl; read = refl }
    & record { sound = refl; answered = refl; barred = refl; read = refl }
    & record { sound = refl; answered = refl; barred = refl; read = refl }
    & record { sound = refl; answered = refl; barred = refl; read = refl }
    & record { sound = refl; answered = refl; barred = refl; read = refl }
    & record { sound = refl; answered = refl; barred = refl; read = refl }
    & record { sound = refl; answered = refl; barred = refl; read = refl }
    & record { sound = refl; answered = refl; barred = refl; read = refl }
    & record { sound = refl; answered = refl; barred = refl; read = refl }
    & record { sound = refl; answered = refl; barred = refl; read = refl }
    & record { sound = refl; answered = refl; barred = refl; read = refl }
    & record { sound = refl; answered = refl; barred = refl; read = refl }
    & record { sound = refl; answered = refl; barred = refl; read = refl }
    & record { sound = refl; answered = refl; barred = refl; read = refl }
    & record { sound = refl; answered = refl; barred = refl; read = refl }
    & record { sound = refl; answered = refl; barred = refl; read = refl }
    & record { sound = refl; answered = refl; barred = refl; read = refl }
    & record { sound = refl; answered = refl; barred = refl; read = refl }
    & record { sound = refl; answered = refl; barred = refl; read = refl }
    & record { sound = refl; answered = refl; barred = refl; read = refl }
    & record { sound = refl; answered = refl; barred = refl; read = refl }
    & record { sound = refl; answered = refl; barred = refl; read = refl }
    & record { sound = refl; answered = refl; barred = refl; read = refl }
    & record { sound = refl; answered = refl; barred = refl; read = refl }
    & record { sound = refl; answered = refl; barred = refl; read = refl }
    & record { sound = refl; answered = refl; barred = refl; read = refl }
    & record { sound = refl; answered = refl; barred = refl; read = refl }
    & record { sound = refl; answered = refl; barred = refl; read = refl }
    & record { sound = refl; answered = refl; barred = refl; read = refl }
    & record { sound = refl; answered = refl; barred = refl; read = refl }
    & record { sound = refl; answered = refl; barred = refl; read = refl }
    & record { sound = refl; answered = refl; barred = refl; read = refl }
    & record { sound = refl; answered = refl; barred = refl; read = refl }
    & record { sound = refl; answered = refl; barred = refl; read = refl }
    & record { sound = refl; answered = refl; barred = refl; read = refl }
    & record { sound = refl; answered = refl; barred = refl; read = refl }
    & record { sound = refl; answered = refl; barred = refl; read = refl }
    & record { sound = refl; answered = refl; barred = refl; read = refl }
    & record { sound = refl; answered = refl; barred = refl; read = refl }
    & record { sound = refl; answered = refl; barred = refl; read = refl }
    & record { sound = refl; answered = refl; barred = refl; read = refl }
    & record { sound = refl; answered = refl; barred = refl; read = refl }
    & record { sound = refl; answered = refl; barred = refl; read = refl }
    & record { sound = refl; answered = refl; barred = refl; read = refl }
    & record { sound = refl; answered = refl; barred = refl; read = refl }
    & tt

pub figures_print : All Prints figures
unfolding pick nearest thousandths
figures_print = refl & refl & refl & refl & refl & refl & refl & refl & refl & refl & refl & tt
