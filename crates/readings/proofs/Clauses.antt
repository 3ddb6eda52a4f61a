-- What each clause of the contract for readings gives the caller. One law a clause: whoever loses a clause breaks its law.
-- Assumes nothing.
use Prim.Native.Nat.{ℕ}
use mathlib.Core.Bool.{false}
use mathlib.Core.List.{List}
use mathlib.Core.Path.{◌≡◌}
use Rattle.plain.specs.Answer.{Answer, is_accepted}
use Rattle.plain.specs.Report.{Query, Tells}
use Rattle.readings.specs.Reading.{Reads, report_in, work_lengths}
use Rattle.settlement.specs.Tables.{Buffers}
use Rattle.state.specs.State.{Beyond, Kept, complete, sheet_of, sizes_of}
use Rattle.state.specs.declared.ledger.Ledger.{Ledger}

module _ {l : Ledger} {K : Kept} {W : Buffers} {q : Query} {outs : List (List ℕ)} {a : Answer} {n : ℕ} {W' : Buffers} {outs' : List (List ℕ)} (p : Reads l K W q outs a n W' outs') where
  -- what is told is the report of this very ledger
  pub reading-tells : Tells (complete l) (sheet_of l K) (report_in l K) q (work_lengths q K W) outs a n outs'
  reading-tells = p.tells

  -- a refused call leaves the working buffers as they were
  pub reading-quiet : is_accepted a ≡ false → W' ≡ W
  reading-quiet = p.quiet

  -- and none is written behind its least length
  pub reading-beyond : Beyond (sizes_of l) W W'
  reading-beyond = p.beyond
