-- What stands at an offset of a run (document 01, "Slips"): a frame, a refusal, or nothing.
-- Assumes nothing.
use Rattle.std.specs.Prelude.{◌+◌, ◌-◌, ℕ, leb, ltb, drop, length, take, List, [], Ok, Err, Some, None, Option, Result}
use Rattle.fields.specs.Number.{le}
use Rattle.sums.specs.Test.{pick}
use Rattle.frames.specs.declared.frame.Span.{Span}
use Rattle.refusals.specs.declared.Refusal.{Refusal}
use Rattle.refusals.specs.declared.Refusal.TheVariants.{BadLength, Short}

-- what stands at an offset: a frame, by its kind and where its body begins and ends; a refusal; or no byte
abbrev pub Framed : Type 0
Framed = Result (Option Span) Refusal

abbrev pub whole_frame : ℕ → ℕ → ℕ → Framed
whole_frame k start end = Ok (Some (record { kind = k; start = start; end = end }))

-- "A slip is a 4-byte length L, then L bytes: a two-byte kind and a body. .. L is 2 to 8,194", with the refusals in the order 1 (length field), 2, 1 (body).
-- In a run of n bytes, at an offset where the length field holds l and the kind field k
abbrev pub framed : ℕ → ℕ → ℕ → ℕ → Framed
framed n at l k =
    pick (leb n at) (Ok None)
    (pick (ltb n (at + 4)) (Err (Short at))
    (pick (ltb l 2) (Err (BadLength at))
    (pick (ltb 8194 l) (Err (BadLength at))
    (pick (ltb n (at + 4 + l)) (Err (Short at)) (whole_frame k (at + 6) (at + 4 + l))))))

-- what stands at an offset of a run
unfoldable pub frame_at : List ℕ → ℕ → Framed
frame_at run at = framed (length run) at (le 4 run at) (le 2 run (at + 4))

-- the bytes from start to end
abbrev pub between : List ℕ → ℕ → ℕ → List ℕ
between run start end = take (end - start) (drop start run)

-- "The body of a slip is handed out as that stretch of the caller's own bytes"; no byte where there is no frame
abbrev pub body_of : Framed → List ℕ → List ℕ
body_of (Ok (Some span)) run = between run span.start span.end
body_of (Err r) run = []
body_of (Ok None) run = []

abbrev pub body_at : List ℕ → ℕ → List ℕ
body_at run at = body_of (frame_at run at) run

-- where the body begins in the run, 0 where there is no frame
abbrev pub start_of : Framed → ℕ
start_of (Ok (Some span)) = span.start
start_of (Err r) = 0
start_of (Ok None) = 0
