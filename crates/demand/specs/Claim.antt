-- Demand 3, undivided (document 01, "What the promises hold to", e and f): what every ledger in use comes to. The numbers are those of its five points.
-- Assumes nothing.
use Rattle.std.specs.Prelude.{◌+◌, ◌<◌, ◌≤◌, ℕ, get_or, length, Bool, true, List, [], ◌∷◌, ◌≢◌, ◌≡◌}
use Rattle.demand.specs.Chain.{Event, InUse, asked, offered}
use Rattle.escrow.specs.Amounts.{credited, reserved}
use Rattle.escrow.specs.Outcome.{Citation, InLogs, full_view, judge, outcome}
use Rattle.escrow.specs.Report.{rows_all, status_all}
use Rattle.plain.specs.Logs.{Logs, EachBegins, Values, empty_logs, history_of}
use Rattle.plain.specs.Offers.{Offer, block, frame, parse, values}
use Rattle.plain.specs.Plain.{answer, ledger, next}
use Rattle.plain.specs.Report.{Report, Tells, report_of}
use Rattle.readings.specs.Reading.{report_in}
use Rattle.settlement.specs.Books.{Status, pending}
use Rattle.sheets.specs.Parts.{home}
use Rattle.sheets.specs.Sheet.{Sheet, balance}
use Rattle.state.specs.Cells.{outcomes_in}
use Rattle.state.specs.State.{Kept, cells_of, sheet_of}
use Rattle.state.specs.declared.ledger.Ledger.{Ledger}
use Rattle.sums.specs.Seq.{Begins}
use Rattle.sums.specs.Sum.{sum_to}

-- what was offered, in order
unfoldable pub offers_in : List Event → List Offer
offers_in [] = []
offers_in (offered o a ∷ es) = o ∷ offers_in es
offers_in (asked r ∷ es) = offers_in es

-- the plain ledger's instance logs, fed these offers
abbrev pub logs_of : Sheet → List Event → Logs
logs_of S es = ledger S (offers_in es)

-- call by call, from the plain ledger's logs L: each offer got its answer, and each call for a reading told what the rules say of its logs then
unfoldable pub Plainly : Sheet → Logs → List Event → Type 0
Plainly S L [] = Unit {0}
Plainly S L (offered o a ∷ es) = (a ≡ answer S (history_of L) o) × Plainly S (next S L o) es
Plainly S L (asked r ∷ es) = Tells true S (report_of S L) r.query r.work r.lists r.answer r.value r.filled × Plainly S L es

-- the settlement of transaction x in a report
abbrev pub settlement_in : Report → ℕ → Status
settlement_in r x = get_or r.settlements x pending

-- One ledger in use, where L are the plain ledger's logs
pub record Read (S : Sheet) (es : List Event) (l : Ledger) (K : Kept) (L : Logs) : Type 0 where
  -- the sheet in its cells is the one that the frames said
  pub sheet : sheet_of l K ≡ S
  -- 1: every answer is the plain ledger's; 2: every reading that was taken told what the rules say
  pub plainly : Plainly S (empty_logs S) es
  -- 2: the recorded part outcomes are the rules', from the sheet and the logs alone
  pub outcomes : (c : Citation) → InLogs S (history_of L) c → outcomes_in (cells_of l K) c ≡ outcome S (history_of L) c
  -- each is the judgement of its part in its view, and nothing else is
  pub judged : (c : Citation) → InLogs S (history_of L) c → outcome S (history_of L) c ≡ judge S (history_of L) (outcome S (history_of L)) c
  pub only : (o : Citation → Bool) → ((c : Citation) → InLogs S (history_of L) c → o c ≡ judge S (history_of L) o c) → (c : Citation) → InLogs S (history_of L) c → o c ≡ outcome S (history_of L) c
  -- 2: settlements, share, registers, free, held and log, from the sheet and the logs alone
  pub report : report_in l K ≡ report_of S L
  -- 5: free and held add up to the starting balances
  pub adds_up : sum_to S.a (λ k. get_or (report_in l K).free k 0) + sum_to S.a (λ k. get_or (report_in l K).held k 0) ≡ sum_to S.a (balance S)
  -- 5: no free amount is below zero: the subtraction that gives it is never cut off
  pub covered : (k : ℕ) → reserved S (rows_all S (history_of L)) (status_all S (history_of L)) (full_view (history_of L) (home S k)) k ≤ balance S k + credited S (status_all S (history_of L)) k

-- Two ledgers in use on one sheet, with the plain ledger's logs L and L'
pub record Agree (S : Sheet) (l : Ledger) (K : Kept) (L : Logs) (l' : Ledger) (K' : Kept) (L' : Logs) : Type 0 where
  -- 3: the same logs, the same readings
  pub report : L ≡ L' → report_in l K ≡ report_in l' K'
  -- 3, 4: the same part outcomes
  pub outcomes : EachBegins S L L' → (c : Citation) → InLogs S (history_of L) c → outcomes_in (cells_of l K) c ≡ outcomes_in (cells_of l' K') c
  -- 4: each log a beginning of the other's: so is the global log, and what is paid or returned stays so
  pub log : EachBegins S L L' → Begins (report_in l K).log (report_in l' K').log
  pub settled : EachBegins S L L' → (x : ℕ) → settlement_in (report_in l K) x ≢ pending → settlement_in (report_in l' K') x ≡ settlement_in (report_in l K) x

-- of every ledger in use, and of every two on one sheet
pub record Demand : Type 0 where
  pub one : (S : Sheet) (es : List Event) (l : Ledger) (K : Kept) → InUse S es l K → Read S es l K (logs_of S es)
  pub two : (S : Sheet) (es es' : List Event) (l l' : Ledger) (K K' : Kept) → InUse S es l K → InUse S es' l' K' → Agree S l K (logs_of S es) l' K' (logs_of S es')
  -- a frame and the values that it says are one offer: the same answer, and the same logs afterwards
  pub as_values : (S : Sheet) (L : Logs) (lent bytes : List ℕ) (at : ℕ) (b : Values) → at < length bytes → parse S bytes at ≡ block b
      → (answer S (history_of L) (frame lent bytes at) ≡ answer S (history_of L) (values lent b)) × (next S L (frame lent bytes at) ≡ next S L (values lent b))
