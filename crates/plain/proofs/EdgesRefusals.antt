-- Each offer is answered as the lists of specs/EdgesRefusals and specs/EdgesFull say: computed from the rules.
-- Assumes nothing.
use mathlib.Core.List.{[], ◌++◌, ◌∷◌, foldl}
use mathlib.Core.Bool.{true}
use mathlib.Core.Path.{◌≡◌, refl}
use Rattle.escrow.specs.Amounts.{covered_by, credited, debit_at, free, free_by, held, held_by, part_good, reserved}
use Rattle.escrow.specs.Outcome.{depth, full_view, judge, judged_to, outcome, rows_of, view_of}
use Rattle.escrow.specs.Report.{rows_all}
use Rattle.escrow.specs.Share.{nearest, share_of, thousandths}
use Rattle.frames.specs.Frame.{frame_at}
use Rattle.frames.specs.Header.{header_ok}
use Rattle.frames.specs.Balances.{balances_ok}
use Rattle.frames.specs.Step.{kind_due, step_at}
use Rattle.transactions.specs.Check.{entry_ok, operation_ok, counts_ok, in_range, accounts_once, balanced, judge_transaction}
use Rattle.sheets.specs.Proper.{is_proper}
use Rattle.ordering.specs.Order.{entry_at, global_log, log_to, seek}
use Rattle.plain.proofs.Edges.{◌&◌}
use Rattle.plain.specs.Answer.{◌then◌, accepted, first_to, refuse, refused}
use Rattle.plain.specs.Early.{early_answer, early_front}
use Rattle.plain.specs.Edges.{blk, offers_of, whole_blocks, whole_sheet}
use Rattle.plain.specs.EdgesFull.{citing, last_logs, last_report, last_sheet, many_pay, tall}
use Rattle.plain.specs.EdgesFurther.{whole_short, whole_frames}
use Rattle.plain.specs.EdgesRefusals.{Ends, Gives, GivesCall, GivesEarly, calls, citations, early_turned, endings, entries, fronts, lends, logs_before, offers_in, frames_near, frames_turned, frames_wide, takes, three_pay, turned}
use Rattle.plain.specs.Logs.{Values, appended, block_from, history_of}
use Rattle.plain.specs.Offers.{offer_needs, parse, values}
use Rattle.plain.specs.Plain.{values_answer, answer, block_answer, cite_answer, cited_before, entry_off, front_answer, idle_answer, last_entry, last_rank, ledger, lent_answer, next, unused_set}
use Rattle.plain.specs.Report.{fill_needs, read_answer, report_by, report_of, settle_needs, work_needs}
use Rattle.sums.specs.Least.{least_from}
use Rattle.sums.specs.Seq.{All, tabulate}
use Rattle.sums.specs.Sum.{sum_to}
use Rattle.sums.specs.Test.{all_to, any_to, given, pick}
use Rattle.settlement.specs.Books.{booked, counted, run_all, settled, step}
use Rattle.sheets.specs.Operations.{operate, operate_to, operated}
use Rattle.settlement.specs.Settlement.{cited, contracts, failed, is_cite, is_fail, payment, status}
use Rattle.sheets.specs.Parts.{amount_on, has_part, home, is_contract, parts}
use Rattle.settlement.specs.View.{block_events, event_at, log_events, view_log, view_sum}
use Rattle.frames.specs.Block.{check_block, cites_of, cut_of}
use Rattle.fields.specs.Number.{le}
use Rattle.sheets.specs.Sheet.{Sheet}

-- the sheets are proper
pub sheets_proper : All (λ (S : Sheet). is_proper S ≡ true) (three_pay ∷ many_pay ∷ last_sheet ∷ [])
unfolding sum_to pick all_to any_to header_ok balances_ok entry_ok operation_ok counts_ok in_range accounts_once balanced judge_transaction is_proper
sheets_proper = refl & refl & refl & tt

-- ---- values

pub refusals : All Gives turned
unfolding tabulate pick any_to home has_part ◌then◌ refuse first_to appended history_of offer_needs lent_answer unused_set front_answer values_answer last_rank last_entry entry_off cited_before cite_answer block_answer idle_answer answer next ledger
refusals = refl & refl & refl & refl & refl & refl & refl & refl & refl & refl & refl & refl & tt

pub lends-answered : All Gives lends
unfolding tabulate pick any_to home has_part ◌then◌ refuse first_to appended history_of offer_needs lent_answer unused_set front_answer values_answer last_rank last_entry entry_off cited_before cite_answer block_answer idle_answer answer next ledger
lends-answered = refl & refl & refl & refl & refl & refl & refl & refl & refl & refl & tt

pub fronts-answered : All Gives fronts
unfolding tabulate pick any_to home has_part ◌then◌ refuse first_to appended history_of offer_needs lent_answer unused_set front_answer values_answer last_rank last_entry entry_off cited_before cite_answer block_answer idle_answer answer next ledger
fronts-answered = refl & refl & refl & refl & refl & refl & refl & refl & refl & tt

pub entries-answered : All Gives entries
unfolding tabulate pick any_to home has_part ◌then◌ refuse first_to appended history_of offer_needs lent_answer unused_set front_answer values_answer last_rank last_entry entry_off cited_before cite_answer block_answer idle_answer answer next ledger
entries-answered = refl & refl & refl & refl & refl & refl & refl & refl & refl & refl & refl & tt

pub citations-answered : All Gives citations
unfolding tabulate pick any_to home has_part ◌then◌ refuse first_to appended history_of offer_needs lent_answer unused_set front_answer values_answer last_rank last_entry entry_off cited_before cite_answer block_answer idle_answer answer next ledger
citations-answered = refl & refl & refl & refl & refl & refl & refl & refl & tt

pub takes-answered : All Gives takes
unfolding tabulate pick any_to home has_part ◌then◌ refuse first_to appended history_of offer_needs lent_answer unused_set front_answer values_answer last_rank last_entry entry_off cited_before cite_answer block_answer idle_answer answer next ledger
takes-answered = refl & refl & refl & refl & refl & tt

-- "Any other changes no log"
pub nothing_changed : foldl (next three_pay) logs_before (offers_in (fronts ++ entries ++ citations)) ≡ logs_before
unfolding tabulate pick any_to home has_part ◌then◌ refuse first_to appended history_of offer_needs lent_answer unused_set front_answer values_answer last_rank last_entry entry_off cited_before cite_answer block_answer idle_answer answer next ledger
nothing_changed = refl

-- ---- slips

pub frames_refused : All Gives frames_turned
unfolding tabulate pick le check_block cites_of cut_of frame_at parse any_to home has_part ◌then◌ refuse first_to appended history_of offer_needs lent_answer unused_set front_answer values_answer last_rank last_entry entry_off cited_before cite_answer block_answer idle_answer answer next ledger
frames_refused = refl & refl & refl & refl & refl & refl & refl & refl & refl & refl & refl & tt

pub frames-near : All Gives frames_near
unfolding tabulate pick le check_block cites_of cut_of frame_at parse any_to home has_part ◌then◌ refuse first_to appended history_of offer_needs lent_answer unused_set front_answer values_answer last_rank last_entry entry_off cited_before cite_answer block_answer idle_answer answer next ledger
frames-near = refl & refl & refl & refl & refl & refl & refl & refl & refl & refl & refl & refl & refl & refl & refl & tt

pub frames-wide : All Gives frames_wide
unfolding tabulate pick le check_block cites_of cut_of frame_at parse any_to home has_part ◌then◌ refuse first_to appended history_of offer_needs lent_answer unused_set front_answer values_answer last_rank last_entry entry_off cited_before cite_answer block_answer idle_answer answer next ledger
frames-wide = refl & refl & refl & refl & refl & tt

-- a slip and the same values give equal logs
pub frames_same : ledger whole_sheet whole_frames ≡ ledger whole_sheet (offers_of whole_sheet whole_blocks)
unfolding tabulate pick le check_block cites_of cut_of frame_at parse any_to home has_part ◌then◌ refuse first_to appended history_of offer_needs lent_answer unused_set front_answer values_answer last_rank last_entry entry_off cited_before cite_answer block_answer idle_answer answer next ledger
frames_same = refl

pub cuts_same : ledger whole_sheet (offers_of whole_sheet whole_short) ≡ ledger whole_sheet (offers_of whole_sheet whole_blocks)
unfolding tabulate pick any_to home has_part ◌then◌ refuse first_to appended history_of offer_needs lent_answer unused_set front_answer values_answer last_rank last_entry entry_off cited_before cite_answer block_answer idle_answer answer next ledger
cuts_same = refl

-- ---- before the sheet is complete

pub early-refused : All GivesEarly early_turned
unfolding pick le frame_at ◌then◌ refuse first_to offer_needs lent_answer idle_answer early_front early_answer
early-refused = refl & refl & refl & refl & refl & refl & refl & refl & refl & refl & refl & refl & tt

pub ended-early : All Ends endings
unfolding pick header_ok frame_at kind_due step_at
ended-early = refl & refl & refl & refl & tt

-- ---- calls for readings

pub calls-answered : All GivesCall calls
unfolding ◌then◌ refuse first_to lent_answer settle_needs work_needs fill_needs read_answer
calls-answered = refl & refl & refl & refl & refl & refl & refl & refl & refl & refl & refl & refl & refl & refl & refl & refl & refl & refl & tt

-- ---- limits

-- "Block 128 accepted, 129 gives 17": whatever the block of instance 0 is
pub full_refused : (b : Values) → b.instance ≡ 0 → block_answer whole_sheet (tall 128) b ≡ refused 17 0
unfolding block_answer ◌then◌ refuse
full_refused b e = rw e

pub last_taken : block_answer whole_sheet (tall 127) (blk 0 128 200 127 0 []) ≡ accepted
unfolding pick ◌then◌ refuse first_to last_rank last_entry entry_off block_answer
last_taken = refl

-- 17 stands after 8 and before 9
pub full_after_8 : block_answer whole_sheet (tall 128) (blk 2 9 0 9 9 (7 ∷ [])) ≡ refused 8 0
unfolding ◌then◌ refuse block_answer
full_after_8 = refl

-- "32 citations accepted, 33 give 5"; and the block is put into the log
pub many_taken : ledger many_pay (offers_of many_pay (citing 32 ∷ [])) ≡ (block_from (citing 32) ∷ []) ∷ []
unfolding tabulate pick any_to home has_part ◌then◌ refuse first_to appended history_of offer_needs lent_answer unused_set front_answer values_answer last_rank last_entry entry_off cited_before cite_answer block_answer idle_answer answer next ledger
many_taken = refl

pub more-refused : answer many_pay (history_of []) (values (offer_needs many_pay) (citing 33)) ≡ refused 5 0
unfolding tabulate pick any_to home has_part ◌then◌ refuse first_to appended history_of offer_needs lent_answer unused_set front_answer values_answer last_rank last_entry entry_off cited_before cite_answer block_answer idle_answer answer next ledger
more-refused = refl

pub last_place : report_of last_sheet last_logs ≡ last_report
unfolding tabulate sum_to pick given any_to all_to least_from seek entry_at log_to global_log credited debit_at reserved held_by free_by free held part_good covered_by operate operate_to operated counted settled booked step run_all rows_of view_of full_view judge judged_to depth outcome rows_all share_of thousandths nearest is_cite is_fail cited failed payment contracts status home amount_on has_part parts is_contract event_at view_sum view_log block_events log_events history_of report_by report_of
last_place = refl
