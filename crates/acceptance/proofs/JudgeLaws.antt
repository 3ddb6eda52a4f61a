-- The judgement of a stored block's places: what the settlement of a view asks, and what it leaves.
-- Assumes nothing.
use Prim.Native.Nat.{◌*◌, ◌/◌, ◌≤◌, ℕ}
use lib.Dec.{eqb}
use mathlib.Core.Bool.{Bool, false, true}
use mathlib.Core.List.{List}
use mathlib.Core.Path.{◌∙◌, ◌≡◌, ap, fun_ext, refl, subst, sym}
use native.Mathlib.Omega.{arith}
use Rattle.escrow.specs.Amounts.{covered_by, part_good}
use Rattle.acceptance.specs.Judging.{Judgeable, view_by}
use Rattle.state.specs.State.{Beyond}
use Rattle.ordering.specs.Table.{Ordered, count_in}
use Rattle.settlement.specs.Tables.{Buffers, whole_of}
use Rattle.settlement.specs.View.{Rows, View}
use Rattle.sheets.proofs.SheetCells.{tx-past}
use Rattle.sheets.specs.Sheet.{sheet_in}
use Rattle.sums.proofs.LoopLaws.{all_to-none}
use Rattle.sums.specs.Test.{bit, pick}
use Rattle.std.specs.Int.{from_bool}
use Rattle.sheets.specs.declared.sheet.Sizes.{Sizes}

-- a test as the number that is kept of it
pub bit_is : (b : Bool) → from_bool b ≡ bit b
bit_is true = refl
bit_is false = refl

-- the whole blocks of a citation's view
pub ordered_view : (m : ℕ) (R : ℕ → ℕ → ℕ) (F : ℕ → ℕ) (i p : ℕ) (v : List ℕ) → count_in v ≡ view_by F i p
    → Ordered m R (λ j. pick (eqb j i) (p / 32) (F j)) → Ordered m R (whole_of (count_in v))
unfolding pick
ordered_view m R F i p v e o = subst (Ordered m R) (fun_ext (λ j. each j (eqb j i) ∙ ap (λ (w : ℕ → ℕ). w j / 32) (sym e))) o
  where
    each : (j : ℕ) (t : Bool) → pick t (p / 32) (F j) ≡ pick t p (F j * 32) / 32
    each j true = refl
    each j false = omega arith

-- a place with no citation has no debits
pub empty-good : (b : List ℕ) (z : Sizes) (R : Rows) (v : View) (i x : ℕ) → z.t ≤ x → true ≡ part_good (sheet_in b z) R v i x
unfolding part_good covered_by
empty-good b z R v i x h = rw (tx-past b z x h) (sym (all_to-none _))

-- the next place of the block can be judged as the first could
pub judgeable_still : (z : Sizes) (ranks cut : List ℕ) (i h k : ℕ) (W W' : Buffers) → k ≡ h → Judgeable z ranks cut i h W → Beyond z W W' → Judgeable z ranks cut i k W'
judgeable_still z ranks cut i h k W W' e j b = rw e (record {
  few = j.few;
  registers = j.registers;
  there = j.there;
  entries = j.entries;
  ordered = j.ordered;
  counts_long = omega (arith, j.counts_long, b.counts-length);
  table_long = omega (arith, j.table_long, b.table-length);
  order_long = omega (arith, j.order_long, b.order-length);
})
