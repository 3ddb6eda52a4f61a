-- What each clause of the contract for records gives the caller. One law a clause: whoever loses a clause breaks its law.
-- Assumes nothing.
use Prim.Native.Nat.{ℕ}
use lib.ListN.{length}
use mathlib.Core.Bool.{false}
use mathlib.Core.List.{List}
use mathlib.Core.Path.{◌≡◌}
use Rattle.account_records.specs.Records.{ReadsBeside, ReadsRecords, over, records_answer, records_of}
use Rattle.account_records.specs.declared.Account.{Account}
use Rattle.plain.specs.Answer.{Answer, is_accepted}
use Rattle.plain.specs.Report.{accounts, filled_with, lists_of}
use Rattle.readings.specs.Reading.{report_in}
use Rattle.settlement.specs.Tables.{Buffers}
use Rattle.state.specs.State.{Beyond, Kept, sizes_of}
use Rattle.state.specs.declared.ledger.Ledger.{Ledger}
use Rattle.sums.specs.Test.{pick}

module _ {l : Ledger} {K : Kept} {W : Buffers} {outs : List (List ℕ)} {room : ℕ}
    {a : Answer} {W' : Buffers} {outs' : List (List ℕ)} (p : ReadsBeside l K W outs room a W' outs') where
  pub beside-answered : a ≡ records_answer l K W outs room
  beside-answered = p.answered

  -- the two lists hold the amounts, too; a refused call leaves them as they were
  pub beside-lists : outs' ≡ pick (is_accepted a) (filled_with (lists_of accounts (report_in l K)) outs) outs
  beside-lists = p.lists

  pub beside-quiet : is_accepted a ≡ false → W' ≡ W
  beside-quiet = p.quiet

  pub beside-beyond : Beyond (sizes_of l) W W'
  beside-beyond = p.beyond

module _ {l : Ledger} {K : Kept} {W : Buffers} {outs : List (List ℕ)} {records : List Account}
    {a : Answer} {W' : Buffers} {outs' : List (List ℕ)} {records' : List Account} (p : ReadsRecords l K W outs records a W' outs' records') where
  pub records_beside : ReadsBeside l K W outs (length records) a W' outs'
  records_beside = p.beside

  -- a refused call leaves the records as they were
  pub records_filled : records' ≡ pick (is_accepted a) (over (records_of (report_in l K)) records) records
  records_filled = p.filled
