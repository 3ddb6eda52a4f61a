-- A block (document 01, kind 4): "instance (2), sequence number (2), rank (4), count (2, at most 32), m cut entries (2 each), count transaction numbers (2 each)".
-- Assumes nothing.
use Rattle.std.specs.Prelude.{◌*◌, ◌+◌, ℕ, eqb, ltb, length, not, List, Ok, Err}
use Rattle.fields.specs.Number.{le}
use Rattle.sums.specs.Seq.{tabulate}
use Rattle.sums.specs.Test.{pick}
use Rattle.frames.specs.declared.block.Block.{Block}
use Rattle.refusals.specs.Refusals.{Checked}
use Rattle.refusals.specs.declared.Refusal.TheVariants.{BodyLength, OutOfRange}

-- "A cut is sixteen counts held as one value, of which the first m are used and the others are 0"
abbrev pub cut_entry : List ℕ → ℕ → ℕ → ℕ
cut_entry b m j = pick (ltb j m) (le 2 b (10 + 2 * j)) 0

unfoldable pub cut_of : List ℕ → ℕ → List ℕ
cut_of b m = tabulate 16 (cut_entry b m)

-- the fields but for the citations
unfoldable pub block_of : List ℕ → ℕ → Block
block_of b m = record {
  instance = le 2 b 0;
  sequence = record { 0 = le 2 b 2 };
  rank = record { 0 = le 4 b 4 };
  cut = cut_of b m;
}

-- the citations: count transaction numbers
unfoldable pub cites_of : List ℕ → ℕ → List ℕ
cites_of b m = tabulate (le 2 b 8) (λ k. le 2 b (10 + 2 * m + 2 * k))

-- refusals 4 and 5 ("in kind 4 a count above 32"), of a frame at the offset at; the length goes by the count as written
unfoldable pub check_block : List ℕ → ℕ → ℕ → Checked
check_block b at m =
    pick (ltb (length b) 10) (Err (BodyLength at))
    (pick (not (eqb (length b) (10 + 2 * m + 2 * le 2 b 8))) (Err (BodyLength at))
    (pick (ltb 32 (le 2 b 8)) (Err (OutOfRange at)) (Ok tt)))
