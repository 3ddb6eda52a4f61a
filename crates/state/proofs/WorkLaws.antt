-- What is left of the working buffers beyond their use.
-- Assumes nothing.
use Prim.Native.Nat.{◌*◌, ◌≤◌, ℕ}
use lib.ListN.{drop, length, length-map}
use mathlib.Core.List.{List, map}
use mathlib.Core.Path.{◌∙◌, ap, refl}
use native.Mathlib.Omega.{arith}
use Rattle.ordering.proofs.LogSum.{log-size}
use Rattle.ordering.specs.Order.{global_log}
use Rattle.ordering.specs.Table.{Ordered, block_id}
use Rattle.settlement.specs.Tables.{Buffers, Settled, whole_of}
use Rattle.settlement.specs.View.{Rows, View, view_log}
use Rattle.sheets.proofs.SheetCells.{sheet-m}
use Rattle.sheets.specs.Sheet.{sheet_in}
use Rattle.state.specs.State.{Beyond}
use Rattle.sums.proofs.FillLaws.{drop-fill, drop-written}
use Rattle.sums.proofs.LoopLaws.{sum_most}
use Rattle.sums.proofs.SeqLaws.{length-fill, length-written}
use Rattle.sheets.specs.declared.sheet.Sizes.{Sizes}

pub beyond-none : (z : Sizes) (W : Buffers) → Beyond z W W
beyond-none z W = record { counts = refl; table = refl; order = refl; counts-length = refl; table-length = refl; order-length = refl }

pub beyond_then : (z : Sizes) (W W' W'' : Buffers) → Beyond z W W' → Beyond z W' W'' → Beyond z W W''
beyond_then z W W' W'' a b = record {
  counts = b.counts ∙ a.counts;
  table = b.table ∙ a.table;
  order = b.order ∙ a.order;
  counts-length = b.counts-length ∙ a.counts-length;
  table-length = b.table-length ∙ a.table-length;
  order-length = b.order-length ∙ a.order-length;
}

-- the log of a view takes at most 128 places an instance
log-room : (b : List ℕ) (z : Sizes) (R : Rows) (v : View) → z.m ≤ 16 → Ordered z.m R.rank (whole_of v) → length (map block_id (view_log (sheet_in b z) R v)) ≤ 128 * z.m
unfolding view_log
log-room b z R v few o =
    rw (sheet-m b z)
    (omega (arith, length-map (global_log z.m R.rank (whole_of v)) block_id, log-size z.m few R.rank (whole_of v), sum_most z.m 128 (whole_of v) o.short))

-- a settlement stays within its use
pub settled-beyond : (b : List ℕ) (z : Sizes) (R : Rows) (v : View) (W W' : Buffers) → z.m ≤ 16 → Ordered z.m R.rank (whole_of v) → Settled z (sheet_in b z) R v W W' → Beyond z W W'
settled-beyond b z R v W W' few o s = record {
  counts = ap (drop (2 * z.t)) s.counted ∙ drop-written W.counts (2 * z.t) _;
  table = ap (drop z.t) s.tabled ∙ drop-written W.table z.t _;
  order = ap (drop (128 * z.m)) s.logged ∙ drop-fill _ W.order (128 * z.m) (log-room b z R v few o);
  counts-length = ap length s.counted ∙ length-written W.counts 0 (2 * z.t) _;
  table-length = ap length s.tabled ∙ length-written W.table 0 z.t _;
  order-length = ap length s.logged ∙ length-fill _ W.order;
}
