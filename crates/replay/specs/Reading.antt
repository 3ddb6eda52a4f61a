-- The reading of a run, whole (document 01, "One reading, whole").
-- Assumes nothing.
use Rattle.std.specs.Prelude.{suc, zero, ℕ, leb, ltb, length, Bool, false, true, List, [], ◌++◌, Ok, Err, None, Some}
use Rattle.demand.specs.Chain.{no_sheet}
use Rattle.frames.specs.Frame.{frame_at}
use Rattle.frames.specs.Frame.{Framed}
use Rattle.plain.specs.Answer.{Answer, accepted, no_offer, refused}
use Rattle.plain.specs.Logs.{Logs, Values, empty_logs, history_of}
use Rattle.plain.specs.Offers.{Offer, frame, offer_needs, offered}
use Rattle.plain.specs.Plain.{answer, next}
use Rattle.plain.specs.Report.{report_of}
use Rattle.refusals.specs.Refusals.{refusal_number, refusal_place}
use Rattle.replay.specs.Opening.{Opened, ended, no_loading, open_from, sheet}
use Rattle.sheets.specs.Sheet.{Sheet, tx_count}
use Rattle.sums.specs.Test.{pick}
use Rattle.text.specs.Lines.{long_line, ok_line, refused_line, run_line}
use Rattle.text.specs.Tail.{tail_text}

-- the frame at an offset, offered with buffers that suffice
abbrev pub frame_offer : Sheet → List ℕ → ℕ → Offer
frame_offer S run at = frame (offer_needs S) run at

-- where the next frame begins
abbrev pub end_of : Framed → ℕ → ℕ
end_of (Ok (Some span)) at = span.end
end_of (Err r) at = at
end_of (Ok None) at = at

-- the line of an offered block b: "A block turned away prints `refused`, number, place, where its `ok` would stand"
unfoldable pub answer_line : Values → Answer → List ℕ
answer_line b accepted = ok_line b.instance b.number
answer_line b (refused n p) = refused_line n p
answer_line b no_offer = []

-- "Refusals 1 to 7 print that line and end the output"
unfoldable pub ends_output : Answer → Bool
ends_output accepted = false
ends_output (refused n p) = leb n 7
ends_output no_offer = true

-- the lines of the blocks from an offset on, where L are the plain ledger's logs; where no byte is left, those of the report. A frame has 6 bytes or more, so that as many frames as
-- the run has bytes, and one more, are never used up
unfoldable pub blocks_text : ℕ → Sheet → List ℕ → ℕ → Logs → List ℕ
blocks_text zero S run at L = []
blocks_text (suc fuel) S run at L =
    pick (leb (length run) at) (tail_text (report_of S L))
    (answer_line (offered S (frame_offer S run at)) (answer S (history_of L) (frame_offer S run at))
    ++ pick (ends_output (answer S (history_of L) (frame_offer S run at))) [] (blocks_text fuel S run (end_of (frame_at run at) at) (next S L (frame_offer S run at))))

-- "The `run` line is printed once the sheet is complete"
unfoldable pub opened_text : List ℕ → Opened → List ℕ
opened_text run (ended r) = refused_line (refusal_number r) (refusal_place r)
opened_text run (sheet S at) = run_line S.m S.a S.g (tx_count S) ++ blocks_text (suc (length run)) S run at (empty_logs S)

-- "A run of more than 65,536 bytes makes `readrun` print the one line `long`"
unfoldable pub reading_text : List ℕ → List ℕ
reading_text run = pick (ltb 65536 (length run)) long_line (opened_text run (open_from (suc (length run)) run 0 no_loading no_sheet))
