-- What is read of a ledger (document 01's reading: "One reading, whole"), and what a call for it answers.
-- Assumes nothing.
use Rattle.std.specs.Prelude.{◌*◌, ◌+◌, ℕ, length, Bool, not, List, [], ◌++◌, ◌∷◌, map, ◌≡◌}
use Rattle.escrow.specs.Amounts.{free, held}
use Rattle.escrow.specs.Outcome.{full_view}
use Rattle.escrow.specs.Report.{rows_all}
use Rattle.escrow.specs.Share.{share_of}
use Rattle.settlement.specs.Settlement.{status}
use Rattle.ordering.specs.Order.{Ref}
use Rattle.plain.specs.Answer.{Answer, ◌then◌, is_accepted, refuse}
use Rattle.plain.specs.Logs.{Logs, history_of}
use Rattle.plain.specs.Plain.{lent_answer}
use Rattle.sums.specs.Seq.{fill, tabulate}
use Rattle.sums.specs.Test.{pick}
use Rattle.sheets.specs.Sheet.{tx_count, Sheet}
use Rattle.settlement.specs.Books.{Status}
use Rattle.settlement.specs.Settlement.{contracts}
use Rattle.settlement.specs.Tables.{code_of}
use Rattle.settlement.specs.View.{Rows, View, view_log}

-- the global log, and for every number from 0 up settlements, free and held amounts and registers; the share
pub record Report : Type 0 where
  pub log : List Ref
  pub settlements : List Status
  pub free : List ℕ
  pub held : List ℕ
  pub registers : List ℕ
  pub share : ℕ

-- "`log` lines stand in log order, `tx`, `account` and `register` lines for every number from 0 up"
unfoldable pub report_by : Sheet → Rows → View → Report
report_by S R v = record {
  log = view_log S R v;
  settlements = tabulate (tx_count S) (status S R v);
  free = tabulate S.a (free S R v);
  held = tabulate S.a (held S R v);
  registers = (contracts S R v).registers;
  share = share_of (tx_count S) (status S R v);
}

-- of the full view, from the sheet and the instance logs alone
unfoldable pub report_of : Sheet → Logs → Report
report_of S L = report_by S (rows_all S (history_of L)) (full_view (history_of L))

-- ---- calls for it

-- what is asked
pub data Query : Type 0 where
  accounts : Query
  registers : Query
  settlements : Query
  share : Query
  log : Query

-- least lengths of the buffers that a call lends before those that it fills: sheet, ranks, cites, good, counts, table, order
unfoldable pub settle_needs : Sheet → List ℕ
settle_needs S = (8 * S.a + 100 * tx_count S) ∷ (128 * S.m) ∷ (4096 * S.m) ∷ (4096 * S.m) ∷ (2 * tx_count S) ∷ tx_count S ∷ (128 * S.m) ∷ []

-- the log needs no more than the ranks
unfoldable pub work_needs : Sheet → Query → List ℕ
work_needs S accounts = settle_needs S
work_needs S registers = settle_needs S
work_needs S settlements = settle_needs S
work_needs S share = settle_needs S
work_needs S log = (128 * S.m) ∷ []

-- "Least lengths are what the call fills: a places for account lists, one place for each block in the log"
unfoldable pub fill_needs : Sheet → Report → Query → List ℕ
fill_needs S r accounts = S.a ∷ S.a ∷ []
fill_needs S r registers = S.g ∷ []
fill_needs S r settlements = tx_count S ∷ []
fill_needs S r share = []
fill_needs S r log = length r.log ∷ length r.log ∷ []

-- "A call for accounts, registers, settlements, share or the log before the sheet is complete gets 3 with place 0, ahead of 16"
unfoldable pub read_answer : Bool → Sheet → Report → Query → List ℕ → Answer
read_answer complete S r q lent = refuse (not complete) 3 0 then lent_answer (work_needs S q ++ fill_needs S r q) lent

-- ---- what a call gives

-- the lists that it fills; a settlement as its number, a block of the log as its instance and its sequence number
unfoldable pub lists_of : Query → Report → List (List ℕ)
lists_of accounts r = r.free ∷ r.held ∷ []
lists_of registers r = r.registers ∷ []
lists_of settlements r = map code_of r.settlements ∷ []
lists_of share r = []
lists_of log r = map (λ (b : Ref). b.instance) r.log ∷ map (λ (b : Ref). b.index + 1) r.log ∷ []

-- the number that it returns
unfoldable pub value_of : Query → Report → ℕ
value_of accounts r = 0
value_of registers r = 0
value_of settlements r = 0
value_of share r = r.share
value_of log r = length r.log

-- each list over the front of its buffer: "places from a on keep what they had", and so of the other lists
unfoldable pub filled_with : List (List ℕ) → List (List ℕ) → List (List ℕ)
filled_with [] outs = outs
filled_with (l ∷ ls) [] = []
filled_with (l ∷ ls) (o ∷ outs) = fill l o ∷ filled_with ls outs

-- A call for q where the report is r, with buffers of the lengths `work` and the lists `outs` lent: it answers a, returns n and leaves outs'
pub record Tells (complete : Bool) (S : Sheet) (r : Report) (q : Query) (work : List ℕ) (outs : List (List ℕ)) (a : Answer) (n : ℕ) (outs' : List (List ℕ)) : Type 0 where
  pub answered : a ≡ read_answer complete S r q (work ++ map length outs)
  pub value : n ≡ pick (is_accepted a) (value_of q r) 0
  pub lists : outs' ≡ pick (is_accepted a) (filled_with (lists_of q r) outs) outs
