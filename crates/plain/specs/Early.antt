-- Offers before the sheet is complete (document 01, the order of refusals; a frame that is offered then is not due).
-- Assumes nothing.
use Rattle.std.specs.Prelude.{ℕ, Ok, Err, None, Some}
use Rattle.frames.specs.Frame.{frame_at}
use Rattle.plain.specs.Answer.{Answer, ◌then◌, refused}
use Rattle.plain.specs.Offers.{Offer, frame, lent_of, offer_needs, values}
use Rattle.plain.specs.Plain.{idle_answer, lent_answer}
use Rattle.frames.specs.Frame.{Framed}
use Rattle.refusals.specs.Refusals.{refusal_number, refusal_place}
use Rattle.sheets.specs.Sheet.{Sheet}

-- 1 and 2 stand before 3; a frame where no byte is left does not come here (`idle_answer`)
abbrev pub early_frame : ℕ → Framed → Answer
early_frame at (Ok (Some span)) = refused 3 at
early_frame at (Err r) = refused (refusal_number r) (refusal_place r)
early_frame at (Ok None) = refused 3 at

-- "first 3 with place 0 if the sheet is not complete"
unfoldable pub early_front : Offer → Answer
early_front (values lent b) = refused 3 0
early_front (frame lent bytes at) = early_frame at (frame_at bytes at)

-- 16 first, as on a complete sheet
unfoldable pub early_answer : Sheet → Offer → Answer
early_answer S o = idle_answer o then lent_answer (offer_needs S) (lent_of o) then early_front o
