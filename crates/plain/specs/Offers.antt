-- What is offered to the plain ledger: a block's values or a frame (document 01's slip), with the lengths of the lent buffers.
-- Assumes nothing.
use Rattle.std.specs.Prelude.{◌*◌, ◌+◌, ℕ, eqb, not, List, [], ◌∷◌, Ok, Err, None, Some}
use Rattle.frames.specs.Frame.{body_of, frame_at}
use Rattle.plain.specs.Logs.{Values}
use Rattle.sums.specs.Test.{pick}
use Rattle.frames.specs.Frame.{Framed}
use Rattle.refusals.specs.declared.Refusal.{Refusal}
use Rattle.refusals.specs.declared.Refusal.TheVariants.{KindNotDue}
use Rattle.refusals.specs.Refusals.{Checked}
use Rattle.sheets.specs.Sheet.{tx_count, Sheet}
use Rattle.frames.specs.Block.{check_block, cites_of, cut_of}
use Rattle.fields.specs.Number.{le}

-- "a slip (bytes and an offset in them at which a byte is left), or a block's values .., with the lent lengths"
pub data Offer : Type 0 where
  values : List ℕ → Values → Offer
  frame : List ℕ → List ℕ → ℕ → Offer

abbrev pub lent_of : Offer → List ℕ
lent_of (values lent b) = lent
lent_of (frame lent bytes at) = lent

-- least lengths of the buffers that an offer lends, in the order of the call: sheet, ranks, cuts, cites, good, counts, table, order (docs/BUFFERS.md)
unfoldable pub offer_needs : Sheet → List ℕ
offer_needs S =
    (8 * S.a + 100 * tx_count S) ∷ (128 * S.m) ∷ (2048 * S.m) ∷ (4096 * S.m) ∷ (4096 * S.m) ∷ (2 * tx_count S) ∷ tx_count S ∷ (128 * S.m) ∷ []

-- ---- a frame, read on a complete sheet

-- a block's values, or the refusal of the frame
pub data Parsed : Type 0 where
  block : Values → Parsed
  wrong : Refusal → Parsed

-- what the body of a block says on a sheet of m instances
abbrev pub values_in : List ℕ → ℕ → Values
values_in b m = record { instance = le 2 b 0; number = le 2 b 2; rank = le 4 b 4; cut = cut_of b m; cites = cites_of b m }

abbrev pub parsed_body : List ℕ → ℕ → Checked → Parsed
parsed_body b m (Ok _) = block (values_in b m)
parsed_body b m (Err r) = wrong r

-- on a complete sheet blocks are due; a frame where no byte is left does not come here (`idle_answer`)
abbrev pub parsed_frame : ℕ → List ℕ → ℕ → Framed → Parsed
parsed_frame m b at (Ok (Some span)) = pick (not (eqb span.kind 4)) (wrong (KindNotDue at)) (parsed_body b m (check_block b at m))
parsed_frame m b at (Err r) = wrong r
parsed_frame m b at (Ok None) = wrong (KindNotDue at)

unfoldable pub parse : Sheet → List ℕ → ℕ → Parsed
parse S bytes at = parsed_frame S.m (body_of (frame_at bytes at) bytes) at (frame_at bytes at)

abbrev pub no_values : Values
no_values = record { instance = 0; number = 0; rank = 0; cut = []; cites = [] }

abbrev pub block_of : Parsed → Values
block_of (block b) = b
block_of (wrong r) = no_values

-- the block that an offer holds
abbrev pub offered : Sheet → Offer → Values
offered S (values lent b) = b
offered S (frame lent bytes at) = block_of (parse S bytes at)
