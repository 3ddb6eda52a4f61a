-- What each clause of the loading call's contract, and of what is said of the working buffers, gives the caller.
-- One law a clause: whoever loses a clause breaks its law.
-- Assumes nothing.
use Rattle.std.proofs.Common.{Ok, None}
use Prim.Native.Nat.{◌*◌, ℕ}
use lib.ListN.{drop, length}
use mathlib.Core.Bool.{false, true}
use mathlib.Core.List.{List}
use mathlib.Core.Path.{◌≡◌}
use Rattle.frames.specs.Step.{Step}
use Rattle.frames_load.specs.Load.{LoadStep}
use Rattle.settlement.specs.Tables.{Buffers}
use Rattle.sheets.specs.declared.sheet.Sizes.{Sizes}
use Rattle.state.specs.Loading.{LoadsSheet, after_step}
use Rattle.state.specs.State.{Beyond, complete}
use Rattle.state.specs.declared.ledger.Ledger.{Ledger}
use Rattle.state.specs.declared.load.Loaded.{Loaded}

module _ {l : Ledger} {run : List ℕ} {at : ℕ} {before after : List ℕ} {r : Loaded} (p : LoadsSheet l run at before after r) where
  -- before the sheet is complete the call is one loading step, and answers as it does
  pub sheet-step : complete l ≡ false → (s : Step) × (LoadStep run at l.loading before after s) × (r ≡ after_step l s)
  sheet-step = p.loads

  -- then it does nothing
  pub sheet-whole : complete l ≡ true → (r ≡ after_step l (Ok None)) × (after ≡ before)
  sheet-whole = p.whole

-- no place of a working buffer from its least length on is changed, and no buffer gets longer or shorter
module _ {z : Sizes} {W W' : Buffers} (p : Beyond z W W') where
  pub counts_behind : drop (2 * z.t) W'.counts ≡ drop (2 * z.t) W.counts
  counts_behind = p.counts

  pub table-behind : drop z.t W'.table ≡ drop z.t W.table
  table-behind = p.table

  pub order-behind : drop (128 * z.m) W'.order ≡ drop (128 * z.m) W.order
  order-behind = p.order

  pub counts_as_long : length W'.counts ≡ length W.counts
  counts_as_long = p.counts-length

  pub table_as_long : length W'.table ≡ length W.table
  table_as_long = p.table-length

  pub order_as_long : length W'.order ≡ length W.order
  order_as_long = p.order-length
