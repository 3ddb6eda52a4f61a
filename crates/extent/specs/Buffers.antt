-- The bytes that the buffers of one call take together (document 01: "those of any one call take together at most 4,194,304 bytes on every sheet").
-- Assumes nothing.
use Rattle.std.specs.Prelude.{◌*◌, ◌+◌, ◌≤◌, ℕ, true, List, [], ◌∷◌, ◌≡◌}
use Rattle.plain.specs.Offers.{offer_needs}
use Rattle.plain.specs.Report.{Query, accounts, log, registers, settlements, share, work_needs}
use Rattle.sheets.specs.Proper.{is_proper}
use Rattle.sheets.specs.Sheet.{Sheet}

-- the bytes of an element, buffer by buffer in the order of the call: sheet, ranks, cuts, cites, good, counts, table, order
abbrev pub offer_widths : List ℕ
offer_widths = 1 ∷ 4 ∷ 2 ∷ 2 ∷ 1 ∷ 4 ∷ 1 ∷ 2 ∷ []

-- the same without the cuts
abbrev pub settle_widths : List ℕ
settle_widths = 1 ∷ 4 ∷ 2 ∷ 1 ∷ 4 ∷ 1 ∷ 2 ∷ []

abbrev pub work_widths : Query → List ℕ
work_widths accounts = settle_widths
work_widths registers = settle_widths
work_widths settlements = settle_widths
work_widths share = settle_widths
work_widths log = 4 ∷ []

-- buffers with elements of the first list's widths, and of the second's lengths
unfoldable pub bytes_of : List ℕ → List ℕ → ℕ
bytes_of [] lengths = 0
bytes_of (w ∷ widths) [] = 0
bytes_of (w ∷ widths) (n ∷ lengths) = w * n + bytes_of widths lengths

-- at the least lengths of an offer, and of every call for a reading
pub record BuffersFit : Type 0 where
  pub offers : (S : Sheet) → is_proper S ≡ true → bytes_of offer_widths (offer_needs S) ≤ 4194304
  pub readings : (S : Sheet) (q : Query) → is_proper S ≡ true → bytes_of (work_widths q) (work_needs S q) ≤ 4194304
