-- The ledger's state: its own numbers by value, and what lies in the caller's buffers.
-- Assumes nothing.
use Rattle.std.specs.Prelude.{◌*◌, ℕ, eqb, drop, length, replicate, Bool, List, [], ◌∷◌, ◌≡◌}
use Rattle.sheets.specs.Sheet.{sheet_in}
use Rattle.state.specs.Cells.{Cells}
use Rattle.sheets.specs.declared.sheet.Sizes.{Sizes}
use Rattle.settlement.specs.Tables.{Buffers}
use Rattle.state.specs.declared.ledger.Ledger.{Ledger}
use Rattle.sheets.specs.Sheet.{Sheet}
use Rattle.frames.specs.Step.{kind_due}

-- a ledger with no sheet yet, and no block
abbrev pub fresh_ledger : Ledger
fresh_ledger = record { loading = record { m = 0; a = 0; g = 0; t = 0; stage = 0; loaded = 0 }; heights = replicate 16 0 }

-- blocks are due: "Once the sheet (head, starts, transactions) is complete"
unfoldable pub complete : Ledger → Bool
complete l = eqb (kind_due l.loading) 4

abbrev pub sizes_of : Ledger → Sizes
sizes_of l = record { m = l.loading.m; a = l.loading.a; g = l.loading.g; t = l.loading.t }

-- the buffers that hold the ledger's content from call to call
pub record Kept : Type 0 where
  pub sheet : List ℕ
  pub ranks : List ℕ
  pub cuts : List ℕ
  pub cites : List ℕ
  pub good : List ℕ

abbrev pub kept : List ℕ → List ℕ → List ℕ → List ℕ → List ℕ → Kept
kept sheet ranks cuts cites good = record { sheet = sheet; ranks = ranks; cuts = cuts; cites = cites; good = good }

-- the lengths that a call for an offer lends, in the order of the call
abbrev pub lengths_of : Kept → Buffers → List ℕ
lengths_of K W =
    length K.sheet ∷ length K.ranks ∷ length K.cuts ∷ length K.cites ∷ length K.good
    ∷ length W.counts ∷ length W.table ∷ length W.order ∷ []

-- counts, table and order are working space, lent to each call anew: it is used as far as docs/BUFFERS.md says, and not beyond
pub record Beyond (z : Sizes) (W W' : Buffers) : Type 0 where
  pub counts : drop (2 * z.t) W'.counts ≡ drop (2 * z.t) W.counts
  pub table : drop z.t W'.table ≡ drop z.t W.table
  pub order : drop (128 * z.m) W'.order ≡ drop (128 * z.m) W.order
  pub counts-length : length W'.counts ≡ length W.counts
  pub table-length : length W'.table ≡ length W.table
  pub order-length : length W'.order ≡ length W.order

-- the sheet and the cells that a ledger and its buffers hold
abbrev pub sheet_of : Ledger → Kept → Sheet
sheet_of l K = sheet_in K.sheet (sizes_of l)

abbrev pub cells_of : Ledger → Kept → Cells
cells_of l K = record { heights = l.heights; ranks = K.ranks; cuts = K.cuts; cites = K.cites; good = K.good }
