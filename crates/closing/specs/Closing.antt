-- What writing a ledger's readings asks and promises.
-- Assumes nothing.
use Rattle.std.specs.Prelude.{◌≤◌, ℕ, length, List}
use Rattle.readings.specs.Reading.{report_in}
use Rattle.settlement.specs.Tables.{Buffers}
use Rattle.state.specs.State.{Beyond, Kept, sizes_of}
use Rattle.state.specs.declared.ledger.Ledger.{Ledger}
use Rattle.text.specs.Tail.{tail_text}
use Rattle.text.specs.Wrote.{Wrote}

-- buffers as long as any sheet needs: 16 instances, 1024 accounts and 1024 transactions
pub record Ample (K : Kept) (W : Buffers) : Type 0 where
  pub sheet : 110592 ≤ length K.sheet
  pub ranks : 2048 ≤ length K.ranks
  pub cites : 65536 ≤ length K.cites
  pub good : 65536 ≤ length K.good
  pub counts : 2048 ≤ length W.counts
  pub table : 1024 ≤ length W.table
  pub order : 2048 ≤ length W.order

-- the text of the ledger's report stands in the buffer from `at` on, r is the place after it, and the working buffers are as they were beyond their use
pub record Closes (l : Ledger) (K : Kept) (W : Buffers) (out : List ℕ) (at : ℕ) (W' : Buffers) (out' : List ℕ) (r : ℕ) : Type 0 where
  pub text : Wrote out at (tail_text (report_in l K)) out' r
  pub beyond : Beyond (sizes_of l) W W'
