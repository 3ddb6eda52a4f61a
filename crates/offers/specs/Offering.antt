-- What a call for an offer promises, whatever the ledger, the buffers and the offer are (document 01, "Plain ledger", and the order of refusals).
-- Assumes nothing.
use Rattle.std.specs.Prelude.{ℕ, false, List, ◌≡◌}
use Rattle.state.specs.Cells.{cells_offered, past_in}
use Rattle.state.specs.State.{Beyond, Kept, cells_of, complete, sheet_of, sizes_of}
use Rattle.plain.specs.Answer.{◌then◌, accepted, is_accepted, no_offer, refused}
use Rattle.plain.specs.Answer as plain
use Rattle.plain.specs.Early.{early_answer}
use Rattle.plain.specs.Offers.{Offer, block_of, offered, parsed_frame}
use Rattle.plain.specs.Plain.{answer, block_answer, parsed_answer}
use Rattle.settlement.specs.Tables.{Buffers}
use Rattle.sums.specs.Test.{pick}
use Rattle.frames.specs.Frame.{whole_frame}
use Rattle.offers.specs.declared.answer.Answer.{Answer}
use Rattle.state.specs.declared.ledger.Ledger.{Ledger}
use Rattle.offers.specs.declared.answer.Offered.{Offered}
use Rattle.refusals.specs.Refusals.{refusal_number, refusal_place}

-- document 01's number and place of each answer
abbrev pub reply_of : Answer → plain.Answer
reply_of Answer.Accepted = accepted
reply_of (Answer.Refused r) = refused (refusal_number r) (refusal_place r)
reply_of Answer.NoByte = no_offer

-- the answer that is due: the plain ledger's on a complete sheet, else that of an offer that comes too early
unfoldable pub answer_from : Ledger → Kept → Offer → plain.Answer
answer_from l K o = pick (complete l) (answer (sheet_of l K) (past_in (cells_of l K)) o) (early_answer (sheet_of l K) o)

-- the answer to a whole frame by its kind and body, once no buffer is short. Only an inner function's contract cites this
unfoldable pub whole_answer : Ledger → Kept → ℕ → List ℕ → ℕ → plain.Answer
whole_answer l K kind b at =
    pick (complete l)
    (parsed_answer (parsed_frame (sheet_of l K).m b at (whole_frame kind 0 0))
    then block_answer (sheet_of l K) (past_in (cells_of l K)) (block_of (parsed_frame (sheet_of l K).m b at (whole_frame kind 0 0))))
    (refused 3 at)

-- the offer o, made to the ledger l with the buffers K and W: it returns r and leaves K' and W'
pub record Offers (l : Ledger) (K : Kept) (W : Buffers) (o : Offer) (r : Offered) (K' : Kept) (W' : Buffers) : Type 0 where
  pub answered : reply_of r.answer ≡ answer_from l K o
  -- the sheet stays; the heights and the cells are those of an accepted block, or as they were
  pub loading : r.ledger.loading ≡ l.loading
  pub sheet : K'.sheet ≡ K.sheet
  pub cells : cells_of r.ledger K' ≡ cells_offered (sheet_of l K) (answer_from l K o) (offered (sheet_of l K) o) (cells_of l K)
  -- what is not accepted leaves the working buffers, too, as they were
  pub quiet : is_accepted (answer_from l K o) ≡ false → W' ≡ W
  pub beyond : Beyond (sizes_of l) W W'
