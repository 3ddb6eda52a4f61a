-- When a settlement may be asked for, and what the timed call of it promises.
-- Assumes nothing.
use Rattle.std.specs.Prelude.{◌*◌, ◌+◌, ℕ, leb, ltb, get_or, Bool, false, true, List, ◌≡◌}
use Rattle.ordering.specs.Table.{rank_in}
use Rattle.settlement.specs.Settlement.{contracts}
use Rattle.settlement.specs.Tables.{Buffers, Settled}
use Rattle.settlement.specs.View.{Rows, View}
use Rattle.sheets.specs.Sheet.{Sheet}
use Rattle.sums.specs.Test.{all_to, both, pick}
use Rattle.sheets.specs.declared.sheet.Sizes.{Sizes}

abbrev pub sizes : ℕ → ℕ → ℕ → ℕ → Sizes
sizes m a g t = record { m = m; a = a; g = g; t = t }

-- block n + 1 of instance j, where it is one of the first b, has a rank above block n's
unfoldable pub rises_at : List ℕ → ℕ → ℕ → ℕ → Bool
rises_at ranks b j n = pick (ltb (n + 1) b) (ltb (rank_in ranks j n) (rank_in ranks j (n + 1))) true

unfoldable pub rises : List ℕ → ℕ → ℕ → Bool
rises ranks b j = all_to b (rises_at ranks b j)

-- at most 16 instances, 64 registers and 128 blocks an instance, buffers that suffice, and ranks that rise in each instance
unfoldable pub ready : Sizes → List ℕ → ℕ → ℕ → ℕ → ℕ → Bool
ready z ranks b counts table order =
    both (leb z.m 16)
    (both (leb z.g 64)
    (both (leb (2 * z.t) counts)
    (both (leb z.t table) (both (leb (128 * z.m) order) (both (leb b 128) (all_to z.m (rises ranks b)))))))

-- where u, the view is settled in the buffers and r gives a register, 0 from g on; else nothing is done
pub record Timed (u : Bool) (z : Sizes) (S : Sheet) (R : Rows) (v : View) (before after : Buffers) (which r : ℕ) : Type 0 where
  pub settled : u ≡ true → Settled z S R v before after
  pub register : u ≡ true → r ≡ 4294967296 + get_or (contracts S R v).registers which 0
  pub nothing : u ≡ false → (r ≡ 0) × (after ≡ before)
