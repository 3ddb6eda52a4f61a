-- The accounts as records, and what a call for them promises (document 01, "Amounts in a view").
-- Assumes nothing.
use Rattle.std.specs.Prelude.{ℕ, ltb, length, false, List, [], ◌++◌, ◌∷◌, map, ◌≡◌}
use Rattle.account_records.specs.declared.Account.{Account}
use Rattle.plain.specs.Answer.{Answer, ◌then◌, is_accepted, refuse}
use Rattle.plain.specs.Report.{Report, accounts, filled_with, lists_of, read_answer}
use Rattle.readings.specs.Reading.{report_in, settle_lengths}
use Rattle.settlement.specs.Tables.{Buffers}
use Rattle.state.specs.State.{Beyond, Kept, complete, sheet_of, sizes_of}
use Rattle.state.specs.declared.ledger.Ledger.{Ledger}
use Rattle.sums.specs.Test.{pick}

-- "free and held together": the two lists side by side, in account order
unfoldable pub joined : List ℕ → List ℕ → List Account
joined [] hs = []
joined (f ∷ fs) [] = []
joined (f ∷ fs) (h ∷ hs) = record { free = f; held = h } ∷ joined fs hs

-- the records of a report, from account 0 up
abbrev pub records_of : Report → List Account
records_of r = joined r.free r.held

-- records written over the front of a slice, as far as it goes: "places from a on keep what they had"
unfoldable pub over : List Account → List Account → List Account
over [] d = d
over (r ∷ l) [] = []
over (r ∷ l) (x ∷ d) = r ∷ over l d

-- the answer of the call for the two lists; then 16 with a, where fewer places than a are lent for the records
unfoldable pub records_answer : Ledger → Kept → Buffers → List (List ℕ) → ℕ → Answer
records_answer l K W outs room =
    read_answer (complete l) (sheet_of l K) (report_in l K) accounts (settle_lengths K W ++ map length outs)
    then refuse (ltb room (sheet_of l K).a) 16 (sheet_of l K).a

-- a call with `room` places for the records answers a, and leaves the working buffers W' and the two lists outs'
pub record ReadsBeside (l : Ledger) (K : Kept) (W : Buffers) (outs : List (List ℕ)) (room : ℕ) (a : Answer) (W' : Buffers) (outs' : List (List ℕ)) : Type 0 where
  pub answered : a ≡ records_answer l K W outs room
  pub lists : outs' ≡ pick (is_accepted a) (filled_with (lists_of accounts (report_in l K)) outs) outs
  pub quiet : is_accepted a ≡ false → W' ≡ W
  pub beyond : Beyond (sizes_of l) W W'

-- and it leaves these records
pub record ReadsRecords (l : Ledger) (K : Kept) (W : Buffers) (outs : List (List ℕ)) (records : List Account) (a : Answer) (W' : Buffers) (outs' : List (List ℕ)) (records' : List Account) : Type 0 where
  pub beside : ReadsBeside l K W outs (length records) a W' outs'
  pub filled : records' ≡ pick (is_accepted a) (over (records_of (report_in l K)) records) records
