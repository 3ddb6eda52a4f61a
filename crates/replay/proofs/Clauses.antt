-- What each clause of the contracts of `open_run` and `put_blocks` gives the caller. One law a clause: whoever loses a clause breaks its law.
-- Assumes nothing.
use Prim.Native.Nat.{ℕ}
use mathlib.Core.Bool.{false}
use mathlib.Core.List.{List}
use mathlib.Core.Path.{◌≡◌}
use Rattle.replay.specs.Inner.{Opens, PutsBlocks, course_of, stand_of}
use Rattle.replay.specs.declared.blocks.Blocks.{Blocks}
use Rattle.replay.specs.declared.opening.Opened as opening
use Rattle.settlement.specs.Tables.{Buffers}
use Rattle.state.specs.State.{Beyond, Kept, sizes_of}
use Rattle.state.specs.declared.ledger.Ledger.{Ledger}
use Rattle.text.specs.Wrote.{Wrote}

module _ {run before : List ℕ} {r : opening.Opened} {after : List ℕ} (p : Opens run before r after) where
  -- the answer, the ledger and the offset, on refusals too
  pub open_result : r ≡ (stand_of run before).result
  open_result = p.result

  pub open_cells : after ≡ (stand_of run before).cells
  open_cells = p.cells

module _ {run : List ℕ} {at : ℕ} {l : Ledger} {K : Kept} {W : Buffers} {out : List ℕ} {place : ℕ} {r : Blocks} {K' : Kept} {W' : Buffers} {out' : List ℕ}
    (p : PutsBlocks run at l K W out place r K' W' out') where
  pub blocks_ledger : r.ledger ≡ (course_of run at l K W).ledger
  blocks_ledger = p.ledger

  pub blocks_kept : K' ≡ (course_of run at l K W).kept
  blocks_kept = p.kept

  pub blocks_ended : r.ended ≡ (course_of run at l K W).ended
  blocks_ended = p.ended

  pub blocks-text : Wrote out place (course_of run at l K W).text out' r.place
  blocks-text = p.text

  -- where no block was accepted the working buffers are as they were
  pub blocks_quiet : (course_of run at l K W).accepted ≡ false → W' ≡ W
  blocks_quiet = p.quiet

  pub blocks_beyond : Beyond (sizes_of l) W W'
  blocks_beyond = p.beyond
