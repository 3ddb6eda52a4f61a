-- What a call for a reading promises, whatever the ledger and the buffers are (document 01, "One reading, whole", and "A call for accounts, registers, settlements, share or the log").
-- Assumes nothing.
use Rattle.std.specs.Prelude.{◌*◌, ℕ, length, false, List, [], ◌∷◌, ◌≡◌}
use Rattle.plain.specs.Answer.{Answer, is_accepted}
use Rattle.plain.specs.Report.{Query, Report, Tells, accounts, log, registers, report_by, settlements, share}
use Rattle.settlement.specs.Cells.{rows_in}
use Rattle.settlement.specs.Tables.{Buffers}
use Rattle.state.specs.Cells.{heights_in}
use Rattle.state.specs.State.{Beyond, Kept, cells_of, complete, kept, sheet_of, sizes_of}
use Rattle.state.specs.declared.ledger.Ledger.{Ledger}

-- the rules' report of the full view, over the ledger's own cells and recorded part outcomes
unfoldable pub report_in : Ledger → Kept → Report
report_in l K = report_by (sheet_of l K) (rows_in K.ranks K.cites K.good) (λ j. heights_in (cells_of l K) j * 32)

-- what a call reads of the kept buffers: none reads the cuts, the log reads the ranks alone
abbrev pub lent_to : Query → Kept → Kept
lent_to accounts K = kept K.sheet K.ranks [] K.cites K.good
lent_to registers K = kept K.sheet K.ranks [] K.cites K.good
lent_to settlements K = kept K.sheet K.ranks [] K.cites K.good
lent_to share K = kept K.sheet K.ranks [] K.cites K.good
lent_to log K = kept [] K.ranks [] [] []

-- the lengths of the buffers that are lent before the lists to be filled, in the order of the call
abbrev pub settle_lengths : Kept → Buffers → List ℕ
settle_lengths K W =
    length K.sheet ∷ length K.ranks ∷ length K.cites ∷ length K.good
    ∷ length W.counts ∷ length W.table ∷ length W.order ∷ []

abbrev pub work_lengths : Query → Kept → Buffers → List ℕ
work_lengths accounts K W = settle_lengths K W
work_lengths registers K W = settle_lengths K W
work_lengths settlements K W = settle_lengths K W
work_lengths share K W = settle_lengths K W
work_lengths log K W = length K.ranks ∷ []

-- the call for q with the lists `outs` to be filled: it answers a, returns n, and leaves the working buffers W' and the lists outs'
pub record Reads (l : Ledger) (K : Kept) (W : Buffers) (q : Query) (outs : List (List ℕ)) (a : Answer) (n : ℕ) (W' : Buffers) (outs' : List (List ℕ)) : Type 0 where
  pub tells : Tells (complete l) (sheet_of l K) (report_in l K) q (work_lengths q K W) outs a n outs'
  -- a refusal leaves the working buffers, too, as they were
  pub quiet : is_accepted a ≡ false → W' ≡ W
  pub beyond : Beyond (sizes_of l) W W'
