-- What the functions that open a run and offer its blocks promise.
-- Assumes nothing.
use Rattle.std.specs.Prelude.{◌≤◌, suc, zero, ℕ, leb, length, Bool, false, true, List, [], ◌++◌, ◌≡◌, Ok, Err, Some, None}
use Rattle.frames.specs.Frame.{body_at, frame_at}
use Rattle.frames.specs.Step.{Step}
use Rattle.frames_load.specs.Load.{load_answer, load_cells}
use Rattle.offers.specs.Offering.{answer_from}
use Rattle.plain.specs.Answer.{Answer, is_accepted}
use Rattle.plain.specs.Offers.{Offer, frame, offered, values_in}
use Rattle.refusals.specs.Refusals.{Checked}
use Rattle.refusals.specs.declared.Refusal.TheVariants.{Short}
use Rattle.replay.specs.Reading.{answer_line, end_of, ends_output}
use Rattle.replay.specs.declared.blocks.Blocks as blocks
use Rattle.replay.specs.declared.opening.Opened as opening
use Rattle.settlement.specs.Tables.{Buffers}
use Rattle.state.specs.Cells.{Cells, cells_offered}
use Rattle.state.specs.State.{Beyond, Kept, cells_of, complete, fresh_ledger, kept, lengths_of, sheet_of, sizes_of}
use Rattle.state.specs.declared.ledger.Ledger.{Ledger}
use Rattle.sums.specs.Test.{pick}
use Rattle.text.specs.Wrote.{Wrote}

-- ---- opening a run

-- what it comes to: the result, and the sheet's cells
pub record Stand : Type 0 where
  pub result : opening.Opened
  pub cells : List ℕ

abbrev pub stand : Checked → Ledger → ℕ → List ℕ → Stand
stand answer l at cells = record { result = record { answer = answer; ledger = l; at = at }; cells = cells }

-- after a step at an offset: a frame that was taken is followed by the rest; any other step ends it there, and leaves everything as it was
abbrev pub stand_step : (Ledger → ℕ → Stand) → Ledger → ℕ → List ℕ → Step → Stand
stand_step rest l at cells (Ok (Some (next, end))) = rest (record { loading = next; heights = l.heights }) end
stand_step rest l at cells (Err r) = stand (Err r) l at cells
stand_step rest l at cells (Ok None) = stand (Err (Short at)) l at cells

-- from an offset on, with any ledger and cells of any length. A frame has 6 bytes or more, so that as many as the run has bytes,
-- and one more, are never used up
unfoldable pub stand_from : ℕ → List ℕ → ℕ → Ledger → List ℕ → Stand
stand_from zero run at l cells = stand (Err (Short at)) l at cells
stand_from (suc fuel) run at l cells =
    pick (complete l) (stand (Ok tt) l at cells)
    (stand_step (λ next end. stand_from fuel run end next (load_cells run at l.loading cells)) l at cells (load_answer run at l.loading (length cells)))

-- a run and the cells at first, with a fresh ledger
abbrev pub stand_of : List ℕ → List ℕ → Stand
stand_of run cells = stand_from (suc (length run)) run 0 fresh_ledger cells

-- before and after are the sheet's cells
pub record Opens (run before : List ℕ) (r : opening.Opened) (after : List ℕ) : Type 0 where
  pub result : r ≡ (stand_of run before).result
  pub cells : after ≡ (stand_of run before).cells

-- ---- offering the blocks

-- what it comes to: the ledger, its kept buffers, the lines, whether the output ends with them, and whether a block was accepted
pub record Course : Type 0 where
  pub ledger : Ledger
  pub kept : Kept
  pub text : List ℕ
  pub ended : Bool
  pub accepted : Bool

-- nothing more is offered
abbrev pub stopped : Ledger → Kept → Bool → Course
stopped l K ended = record { ledger = l; kept = K; text = []; ended = ended; accepted = false }

-- with lines in front, and whether a block was accepted there
abbrev pub behind : List ℕ → Bool → Course → Course
behind text accepted c = record {
  ledger = c.ledger;
  kept = c.kept;
  text = text ++ c.text;
  ended = c.ended;
  accepted = pick accepted true c.accepted;
}

-- Refusals 1 to 7 end the output. So does an answer where no whole frame stands, since no frame is to be found behind it:
-- with buffers that are too short the answer is 16, whatever stands there
unfoldable pub stops_at : Answer → ℕ → ℕ → Bool
stops_at a at end = pick (ends_output a) true (leb end at)

-- the cells after an offer
unfoldable pub cells_after : Ledger → Kept → Offer → Cells
cells_after l K o = cells_offered (sheet_of l K) (answer_from l K o) (offered (sheet_of l K) o) (cells_of l K)

abbrev pub ledger_with : Ledger → Cells → Ledger
ledger_with l C = record { loading = l.loading; heights = C.heights }

abbrev pub kept_with : Kept → Cells → Kept
kept_with K C = kept K.sheet C.ranks C.cuts C.cites C.good

-- the line of an answer at an offset
abbrev pub line_at : List ℕ → ℕ → Ledger → Answer → List ℕ
line_at run at l a = answer_line (values_in (body_at run at) l.loading.m) a

-- from an offset on, with any ledger, and buffers of any lengths (`lent`), the same for each block. The count of frames is used up no more than above
unfoldable pub course_from : ℕ → List ℕ → List ℕ → ℕ → Ledger → Kept → Course
course_from zero lent run at l K = stopped l K true
course_from (suc fuel) lent run at l K =
    let o : Offer = frame lent run at in
    let a : Answer = answer_from l K o in
    let l' : Ledger = ledger_with l (cells_after l K o) in
    let K' : Kept = kept_with K (cells_after l K o) in
    let end : ℕ = end_of (frame_at run at) at in
    pick (leb (length run) at) (stopped l K false)
    (behind (line_at run at l a) (is_accepted a) (pick (stops_at a at end) (stopped l' K' true) (course_from fuel lent run end l' K')))

abbrev pub course_of : List ℕ → ℕ → Ledger → Kept → Buffers → Course
course_of run at l K W = course_from (suc (length run)) (lengths_of K W) run at l K

-- The working buffers are used as far as the sheet needs them (`Beyond`), and what they hold there is left free, as by `Offers`;
-- where no block was accepted they are as they were
pub record PutsBlocks (run : List ℕ) (at : ℕ) (l : Ledger) (K : Kept) (W : Buffers) (out : List ℕ) (place : ℕ) (r : blocks.Blocks) (K' : Kept) (W' : Buffers) (out' : List ℕ) : Type 0 where
  pub ledger : r.ledger ≡ (course_of run at l K W).ledger
  pub kept : K' ≡ (course_of run at l K W).kept
  pub ended : r.ended ≡ (course_of run at l K W).ended
  pub text : Wrote out place (course_of run at l K W).text out' r.place
  pub quiet : (course_of run at l K W).accepted ≡ false → W' ≡ W
  pub beyond : Beyond (sizes_of l) W W'

-- buffers that suffice for every sheet
pub record Ample (K : Kept) (W : Buffers) : Type 0 where
  pub sheet : 110592 ≤ length K.sheet
  pub ranks : 2048 ≤ length K.ranks
  pub cuts : 32768 ≤ length K.cuts
  pub cites : 65536 ≤ length K.cites
  pub good : 65536 ≤ length K.good
  pub counts : 2048 ≤ length W.counts
  pub table : 1024 ≤ length W.table
  pub order : 2048 ≤ length W.order
