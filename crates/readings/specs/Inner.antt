-- What the calls for a reading are made of. Only contracts of inner functions cite this.
-- Assumes nothing.
use Rattle.std.specs.Prelude.{◌*◌, ℕ, take, not, List, ◌≡◌}
use Rattle.ordering.specs.Table.{count_in, rank_in, usable}
use Rattle.plain.specs.Answer.{Answer, ◌then◌, refuse}
use Rattle.plain.specs.Plain.{lent_answer}
use Rattle.plain.specs.Report.{settle_needs}
use Rattle.readings.specs.Reading.{settle_lengths}
use Rattle.settlement.specs.Cells.{rows_in}
use Rattle.settlement.specs.Settlement.{contracts}
use Rattle.settlement.specs.Tables.{Buffers, Settled}
use Rattle.settlement.specs.View.{View}
use Rattle.state.specs.State.{Beyond, Kept, complete, sheet_of, sizes_of}
use Rattle.state.specs.declared.ledger.Ledger.{Ledger}

-- the answer of a call that settles, up to the lists that it fills
unfoldable pub settling_answer : Ledger → Kept → Buffers → Answer
settling_answer l K W = refuse (not (complete l)) 3 0 then lent_answer (settle_needs (sheet_of l K)) (settle_lengths K W)

-- the full view, by the ranks in their cells
abbrev pub places_in : Ledger → List ℕ → View
places_in l ranks j = usable (rank_in ranks) (count_in l.heights) j * 32

-- the settlement of the full view in the working buffers, and its registers as the first g cells of a list
pub record SettlesFull (l : Ledger) (K : Kept) (W : Buffers) (values : List ℕ) (W' : Buffers) : Type 0 where
  pub settled : Settled (sizes_of l) (sheet_of l K) (rows_in K.ranks K.cites K.good) (places_in l K.ranks) W W'
  pub registers : take l.loading.g values ≡ (contracts (sheet_of l K) (rows_in K.ranks K.cites K.good) (places_in l K.ranks)).registers
  pub beyond : Beyond (sizes_of l) W W'
