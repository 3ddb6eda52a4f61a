-- One frame of a run, judged by the sheet so far (document 01, "Slips": "A run is one head, one starts slip, t transactions in number order, then blocks").
-- Assumes nothing.
use Rattle.std.specs.Prelude.{◌+◌, ℕ, eqb, ltb, not, List, Ok, Err, Some, None, Option, Result}
use Rattle.fields.specs.Number.{le}
use Rattle.frames.specs.Balances.{check_balances}
use Rattle.frames.specs.Block.{check_block}
use Rattle.frames.specs.Frame.{body_of, frame_at}
use Rattle.frames.specs.Header.{check_header, header_ok}
use Rattle.sums.specs.Test.{pick}
use Rattle.transactions.specs.Check.{check_transaction}
use Rattle.frames.specs.Frame.{Framed}
use Rattle.frames.specs.declared.step.Loading.{Loading}
use Rattle.refusals.specs.Refusals.{Checked}
use Rattle.refusals.specs.declared.Refusal.{Refusal}
use Rattle.refusals.specs.declared.Refusal.TheVariants.{KindNotDue, Short}

-- a frame that was taken, as the sheet then and the next offset; a refusal; or the run's end
abbrev pub Step : Type 0
Step = Result (Option (Loading × ℕ)) Refusal

abbrev pub taken_step : Loading → ℕ → Step
taken_step next end = Ok (Some (next, end))

-- The kind that is due: 1, then 2, then 3 until t transactions are there, then 4 ("With t 0 it is complete after the starts").
-- None is, and 0 stands for it, where the numbers are not those of a header or more than t transactions were taken: no loading leaves such a value
unfoldable pub kind_due : Loading → ℕ
kind_due s =
    pick (eqb s.stage 0) 1
    (pick (not (header_ok s.m s.a s.g s.t)) 0
    (pick (eqb s.stage 1) 2 (pick (ltb s.loaded s.t) 3 (pick (eqb s.loaded s.t) 4 0))))

-- refusals 4 to 7 by the kind; a kind that is none of the four is unknown, and stays refused by 3 whatever the sheet so far
unfoldable pub judged : Loading → ℕ → List ℕ → ℕ → Checked
judged s kind b at =
    pick (eqb kind 1) (check_header b at)
    (pick (eqb kind 2) (check_balances b at s.a)
    (pick (eqb kind 3) (check_transaction b at s.a s.g) (pick (eqb kind 4) (check_block b at s.m) (Err (KindNotDue at)))))

-- the sheet so far after a header, and after a frame of a kind
unfoldable pub header_loaded : List ℕ → Loading
header_loaded b = record { m = le 2 b 0; a = le 2 b 2; g = le 2 b 4; t = le 2 b 6; stage = 1; loaded = 0 }

unfoldable pub loading_after : Loading → ℕ → List ℕ → Loading
loading_after s kind b =
    pick (eqb kind 1) (header_loaded b)
    (pick (eqb kind 2) (record { m = s.m; a = s.a; g = s.g; t = s.t; stage = 2; loaded = 0 })
    (pick (eqb kind 3)
    (pick (ltb s.loaded s.t) (record { m = s.m; a = s.a; g = s.g; t = s.t; stage = 2; loaded = s.loaded + 1 }) s)
    s))

-- a frame that is fine is taken, and the next one begins at end
abbrev pub after_check : Loading → ℕ → Checked → Step
after_check next end (Ok _) = taken_step next end
after_check next end (Err r) = Err r

-- by what stands at the offset: 3 where the kind is not due, then 4 to 7; where no byte is left, the run's end once the sheet is complete, else 1
abbrev pub after_frame : Loading → ℕ → List ℕ → Framed → Step
after_frame s at b (Ok (Some span)) =
    pick (not (eqb span.kind (kind_due s))) (Err (KindNotDue at)) (after_check (loading_after s span.kind b) span.end (judged s span.kind b at))
after_frame s at b (Err r) = Err r
after_frame s at b (Ok None) = pick (eqb (kind_due s) 4) (Ok None) (Err (Short at))

-- the answer at an offset of a run, with the sheet so far
unfoldable pub step_at : List ℕ → ℕ → Loading → Step
step_at run at s = after_frame s at (body_of (frame_at run at) run) (frame_at run at)
