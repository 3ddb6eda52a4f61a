-- Document 01's run prints what document 01 says: its sheet opened, its two blocks accepted, its report, and the lines.
-- Assumes nothing.
use Prim.Native.Nat.{suc, ℕ}
use lib.Dec.{leb}
use lib.ListN.{length}
use mathlib.Core.Bool.{false}
use mathlib.Core.List.{List, ◌++◌, zip, zip_with}
use mathlib.Core.Path.{◌∙◌, ◌≡◌, ap, refl}
use Rattle.demand.specs.Chain.{no_sheet, sheet_with}
use Rattle.escrow.specs.Amounts.{covered_by, credited, debit_at, free, free_by, held, held_by, part_good, reserved}
use Rattle.escrow.specs.Outcome.{depth, full_view, judge, judged_to, outcome, rows_of, view_of}
use Rattle.escrow.specs.Report.{rows_all}
use Rattle.escrow.specs.Share.{nearest, share_of, thousandths}
use Rattle.fields.specs.Number.{le}
use Rattle.frames.specs.Balances.{balances_of, balances_ok, check_balances}
use Rattle.frames.specs.Block.{check_block, cites_of, cut_of}
use Rattle.frames.specs.Frame.{frame_at}
use Rattle.frames.specs.Header.{check_header, header_ok}
use Rattle.frames.specs.Step.{header_loaded, judged, kind_due, loading_after, step_at}
use Rattle.frames_load.specs.Load.{body_stored, load_answer, load_cells, room, sheet_so_far}
use Rattle.ordering.specs.Order.{entry_at, global_log, log_to, seek}
use Rattle.plain.specs.Answer.{◌then◌, accepted, first_to, refuse}
use Rattle.plain.specs.Logs.{Logs, appended, empty_logs, history_of}
use Rattle.plain.specs.Offers.{Offer, offer_needs, offered, parse}
use Rattle.plain.specs.Plain.{answer, block_answer, cite_answer, cited_before, entry_off, front_answer, idle_answer, last_entry, last_rank, lent_answer, next, unused_set, values_answer}
use Rattle.plain.specs.Report.{report_by, report_of}
use Rattle.replay.specs.Opening.{no_loading, open_from, sheet}
use Rattle.replay.specs.Reading.{answer_line, blocks_text, end_of, ends_output, frame_offer, opened_text, reading_text}
use Rattle.settlement.specs.Books.{booked, counted, run_all, settled, step}
use Rattle.settlement.specs.Settlement.{cited, contracts, failed, is_cite, is_fail, payment, status}
use Rattle.settlement.specs.View.{block_events, event_at, log_events, view_log, view_sum}
use Rattle.sheets.specs.Operations.{operate, operate_to, operated}
use Rattle.sheets.specs.Parts.{amount_on, has_part, home, is_contract, parts}
use Rattle.sheets.specs.Sheet.{sheet_from}
use Rattle.sums.specs.Least.{least_from}
use Rattle.sums.specs.Seq.{tabulate}
use Rattle.sums.specs.Sum.{sum_to}
use Rattle.sums.specs.Test.{all_to, any_to, given, pick}
use Rattle.text.specs.Ascii.{bytes_of}
use Rattle.text.specs.Lines.{account_line, log_line, ok_line, refused_line, register_line, run_line, share_line, tx_line}
use Rattle.text.specs.Tail.{account_lines, lines_from, log_lines, pair_lines, register_lines, tail_text, tx_lines}
use Rattle.text.specs.Text.{decimal, decimal_by, field, fields, line}
use Rattle.transactions.specs.Body.{transaction_of}
use Rattle.transactions.specs.Check.{accounts_once, balanced, check_transaction, counts_ok, entry_ok, in_range, judge_transaction, operation_ok}
use Rattle.plain.specs.Edges.{whole_report, whole_sheet}
use Rattle.replay.specs.Worked.{WorkedText, worked_run, worked_text}

opened : open_from 147 worked_run 0 no_loading no_sheet ≡ sheet whole_sheet 100
unfolding accounts_once all_to balanced balances_of balances_ok body_stored check_balances check_block check_header check_transaction counts_ok entry_ok frame_at header_loaded header_ok in_range judge_transaction judged kind_due le load_answer load_cells loading_after open_from operation_ok pick room sheet_from sheet_so_far sheet_with step_at sum_to tabulate transaction_of
opened = refl

-- ---- block by block

abbrev offer_at : ℕ → Offer
offer_at at = frame_offer whole_sheet worked_run at

abbrev logs_after : Logs
logs_after = next whole_sheet (empty_logs whole_sheet) (offer_at 100)

abbrev logs_last : Logs
logs_last = next whole_sheet logs_after (offer_at 122)

taken : (answer whole_sheet (history_of (empty_logs whole_sheet)) (offer_at 100) ≡ accepted) × (answer whole_sheet (history_of logs_after) (offer_at 122) ≡ accepted)
unfolding ◌then◌ answer any_to appended block_answer check_block cite_answer cited_before cites_of cut_of entry_off first_to frame_at front_answer has_part history_of home idle_answer last_entry last_rank le lent_answer next offer_needs parse pick refuse tabulate unused_set values_answer
taken = (refl, refl)

said : (answer_line (offered whole_sheet (offer_at 100)) accepted ≡ ok_line 1 1) × (answer_line (offered whole_sheet (offer_at 122)) accepted ≡ ok_line 0 1)
unfolding answer_line bytes_of check_block cites_of cut_of decimal decimal_by field fields frame_at le line ok_line parse pick refused_line tabulate
said = (refl, refl)

ends : (end_of (frame_at worked_run 100) 100 ≡ 122) × (end_of (frame_at worked_run 122) 122 ≡ 146)
unfolding frame_at le pick
ends = (refl, refl)

reported : report_of whole_sheet logs_last ≡ whole_report
unfolding ◌then◌ all_to amount_on answer any_to appended block_answer block_events booked check_block cite_answer cited cited_before cites_of contracts counted covered_by credited cut_of debit_at depth entry_at entry_off event_at failed first_to frame_at free free_by front_answer full_view given global_log has_part held held_by history_of home idle_answer is_cite is_contract is_fail judge judged_to last_entry last_rank le least_from lent_answer log_events log_to next offer_needs operate operate_to operated outcome parse part_good parts payment pick refuse report_by report_of reserved rows_all rows_of run_all seek settled share_of thousandths nearest status step sum_to tabulate unused_set values_answer view_log view_of view_sum
reported = refl

-- a block that is accepted: its line, then the rest
line_then : (fuel at : ℕ) (L : Logs) → leb (length worked_run) at ≡ false → answer whole_sheet (history_of L) (offer_at at) ≡ accepted
    → blocks_text (suc fuel) whole_sheet worked_run at L
    ≡ answer_line (offered whole_sheet (offer_at at)) accepted ++ blocks_text fuel whole_sheet worked_run (end_of (frame_at worked_run at) at) (next whole_sheet L (offer_at at))
unfolding blocks_text ends_output pick
line_then fuel at L e a = rw (e, a) refl

at_end : (fuel : ℕ) (L : Logs) → blocks_text (suc fuel) whole_sheet worked_run 146 L ≡ tail_text (report_of whole_sheet L)
unfolding blocks_text pick
at_end fuel L = refl

blocks : blocks_text 147 whole_sheet worked_run 100 (empty_logs whole_sheet) ≡ ok_line 1 1 ++ (ok_line 0 1 ++ tail_text whole_report)
blocks =
    line_then 146 100 (empty_logs whole_sheet) refl taken.0
    ∙ rw (said.0, ends.0) (ap (λ (l : List ℕ). ok_line 1 1 ++ l) (line_then 145 122 logs_after refl taken.1
    ∙ rw (said.1, ends.1) (ap (λ (l : List ℕ). ok_line 0 1 ++ l) (at_end 144 logs_last ∙ ap tail_text reported))))

lines : run_line 2 3 1 2 ++ (ok_line 1 1 ++ (ok_line 0 1 ++ tail_text whole_report)) ≡ bytes_of worked_text
unfolding account_line account_lines amount_on any_to block_events booked bytes_of cited contracts counted credited debit_at decimal decimal_by entry_at event_at failed field fields free free_by given global_log has_part held held_by home is_cite is_contract is_fail least_from line lines_from log_events log_line log_lines log_to ok_line operate operate_to operated pair_lines parts payment pick register_line register_lines reserved run_all run_line seek settled share_line status step sum_to tabulate tail_text tx_line tx_lines view_log view_sum zip zip_with
lines = refl

pub worked-text : WorkedText
unfolding reading_text opened_text pick
worked-text = ap (opened_text worked_run) opened ∙ ap (λ (l : List ℕ). run_line 2 3 1 2 ++ l) blocks ∙ lines
