-- The ledger's own numbers in a caller's slice, and answers as numbers. The layout is ours: document 01 has none.
-- Assumes nothing.
use Rattle.std.specs.Prelude.{◌+◌, min, ℕ, get_or, Bool, false, true, List, [], ◌∷◌, ◌≡◌, Ok, Err, Some, None}
use Rattle.encoding.specs.Writing.{Written}
use Rattle.frames.specs.Frame.{Framed}
use Rattle.plain.specs.Answer.{Answer, accepted, no_offer, refused}
use Rattle.refusals.specs.Refusals.{refusal_number, refusal_place}
use Rattle.state.specs.declared.ledger.Ledger.{Ledger}
use Rattle.state.specs.Loading.{Taken}
use Rattle.sums.specs.Seq.{fill, tabulate}

-- how many numbers there are
abbrev pub size : ℕ
size = 22

-- m, a, g, t, the stage of loading, the transactions taken, then sixteen heights. All zero is a fresh ledger; a stage is one byte
unfoldable pub ledger_in : List ℕ → Ledger
ledger_in n = record {
  loading = record { m = get_or n 0 0; a = get_or n 1 0; g = get_or n 2 0; t = get_or n 3 0; stage = min (get_or n 4 0) 255; loaded = get_or n 5 0 };
  heights = tabulate 16 (λ j. get_or n (6 + j) 0);
}

abbrev pub numbers_of : Ledger → List ℕ
numbers_of l = l.loading.m ∷ l.loading.a ∷ l.loading.g ∷ l.loading.t ∷ l.loading.stage ∷ l.loading.loaded ∷ l.heights

-- an answer's number: 0 where accepted, the refusal's number, 255 where no byte was left
abbrev pub number_of : Answer → ℕ
number_of accepted = 0
number_of (refused n p) = n
number_of no_offer = 255

abbrev pub place_of : Answer → ℕ
place_of accepted = 0
place_of (refused n p) = p
place_of no_offer = 0

-- where a text was written its length stands for the place
abbrev pub length_or : ℕ → Answer → ℕ
length_or n accepted = n
length_or n (refused k p) = p
length_or n no_offer = 0

-- of a writer: 0 and how many bytes it wrote, or the refusal's number and place
abbrev pub written_number : Written → ℕ
written_number (Ok n) = 0
written_number (Err r) = refusal_number r

abbrev pub written_place : Written → ℕ
written_place (Ok n) = n
written_place (Err r) = refusal_place r

-- of the frame at an offset: 0, where it ends, and its kind; the refusal's number and place; or 255 where no byte is left
abbrev pub frame_number : Framed → ℕ
frame_number (Ok (Some span)) = 0
frame_number (Err r) = refusal_number r
frame_number (Ok None) = 255

abbrev pub frame_place : Framed → ℕ
frame_place (Ok (Some span)) = span.end
frame_place (Err r) = refusal_place r
frame_place (Ok None) = 0

abbrev pub frame_kind : Framed → ℕ
frame_kind (Ok (Some span)) = span.kind
frame_kind (Err r) = 0
frame_kind (Ok None) = 0

-- of a frame of the sheet: 0 and where the next begins, the refusal's number and place, or 255 where nothing is left to load
abbrev pub load_number : Taken → ℕ
load_number (Ok (Some end)) = 0
load_number (Err r) = refusal_number r
load_number (Ok None) = 255

abbrev pub load_place : Taken → ℕ
load_place (Ok (Some end)) = end
load_place (Err r) = refusal_place r
load_place (Ok None) = 0

-- a frame was taken
abbrev pub is_taken : Taken → Bool
is_taken (Ok (Some end)) = true
is_taken (Err r) = false
is_taken (Ok None) = false

-- the number is returned; the place, and a value where there is one, go to the first two places of a lent slice, as far as it goes.
-- That slice is the answer and no buffer that refusal 16 speaks of: who lends fewer than two places forgoes the rest
pub record Said (number place value : ℕ) (code : ℕ) (told told' : List ℕ) : Type 0 where
  pub returned : code ≡ number
  pub written : told' ≡ fill (place ∷ value ∷ []) told
