-- The outcomes of a stored block's places, as the code judges them. Only contracts of inner functions cite this: taken_in of Cells is what they come to.
-- Assumes nothing.
use Rattle.std.specs.Prelude.{◌*◌, ◌+◌, ◌<◌, ◌≤◌, ℕ, eqb, get_or, length, set, Bool, List, ◌≡◌}
use Rattle.escrow.specs.Amounts.{part_good}
use Rattle.ordering.specs.Table.{Ordered, count_in, rank_in}
use Rattle.sheets.specs.declared.sheet.Sizes.{Sizes}
use Rattle.settlement.specs.Tables.{Buffers}
use Rattle.settlement.specs.View.{no_cite}
use Rattle.sums.specs.Seq.{written}
use Rattle.sums.specs.Test.{bit, pick}
use Rattle.frames.specs.declared.block.Block.{Block}
use Rattle.sheets.specs.Sheet.{Sheet}
use Rattle.settlement.specs.Cells.{cell_in, rows_in}
use Rattle.settlement.specs.Tables.{Buffers}
use Rattle.settlement.specs.View.{View}

-- the view of place p of instance i, its block's cut being F
abbrev pub view_by : (ℕ → ℕ) → ℕ → ℕ → View
view_by F i p j = pick (eqb j i) p (F j * 32)

-- the outcome of the part that is cited at place p of instance i
abbrev pub good_at : Sheet → List ℕ → List ℕ → List ℕ → ℕ → ℕ → List ℕ → Bool
good_at S ranks cites cut i p g = part_good S (rows_in ranks cites g) (view_by (count_in cut) i p) i (cell_in cites i p)

-- the outcomes g with that of place p
unfoldable pub judged_good : Sheet → List ℕ → List ℕ → List ℕ → ℕ → ℕ → List ℕ → List ℕ
judged_good S ranks cites cut i p g = set g (i * 4096 + p) (bit (good_at S ranks cites cut i p g))

-- what the judgement of a place of block h needs: the sheet's sizes in range, room in the working buffers, and ranks that rise as far as the view goes
pub record Judgeable (z : Sizes) (ranks cut : List ℕ) (i h : ℕ) (W : Buffers) : Type 0 where
  pub few : z.m ≤ 16
  pub registers : z.g ≤ 64
  pub there : i < z.m
  pub entries : (j : ℕ) → count_in cut j ≤ 128
  pub ordered : Ordered z.m (rank_in ranks) (λ j. pick (eqb j i) h (count_in cut j))
  pub counts_long : 2 * z.t ≤ length W.counts
  pub table_long : z.t ≤ length W.table
  pub order_long : 128 * z.m ≤ length W.order

-- block n of its instance, in the cells
pub record Stores (b : Block) (list : List ℕ) (n : ℕ) (ranks cuts cites ranks' cuts' cites' : List ℕ) : Type 0 where
  pub ranked : ranks' ≡ set ranks (b.instance * 128 + n) b.rank.0
  pub cut : cuts' ≡ written cuts ((b.instance * 128 + n) * 16) 16 (λ e. get_or b.cut e 0)
  pub cited : cites' ≡ written cites (b.instance * 4096 + n * 32) 32 (λ q. get_or list q no_cite)
