-- The fronts of buffers that suffice, lent alone: what lies behind them is as it was.
-- Assumes nothing.
use Prim.Native.Nat.{◌≤◌, ℕ}
use lib.ListN.{drop, length, take}
use lib.Seq.{drop_at, length-take-le}
use mathlib.Core.List.{List, ◌++◌}
use mathlib.Core.Path.{◌∙◌, ◌≡◌}
use native.Mathlib.Omega.{arith}
use Rattle.replay.specs.Inner.{Ample}
use Rattle.settlement.specs.Tables.{Buffers, buffers}
use Rattle.state.specs.State.{Kept, kept}

module _ (n : ℕ) (s : List ℕ) where
  front_long : n ≤ length s → n ≤ length (take n s)
  front_long h = let e = length-take-le n s h in omega (arith, e)

  -- p is what came back of the front
  pub rest_stays : (p : List ℕ) → n ≤ length s → length p ≡ length (take n s) → drop n (p ++ drop n s) ≡ drop n s
  rest_stays p h e = drop_at p (drop n s) n (e ∙ length-take-le n s h)

pub ample_fronts : (K : Kept) (W : Buffers) → Ample K W → Ample
    (kept (take 110592 K.sheet) (take 2048 K.ranks) (take 32768 K.cuts) (take 65536 K.cites) (take 65536 K.good))
    (buffers (take 2048 W.counts) (take 1024 W.table) (take 2048 W.order))
ample_fronts K W h =
    record {
      sheet = front_long 110592 K.sheet h.sheet;
      ranks = front_long 2048 K.ranks h.ranks;
      cuts = front_long 32768 K.cuts h.cuts;
      cites = front_long 65536 K.cites h.cites;
      good = front_long 65536 K.good h.good;
      counts = front_long 2048 W.counts h.counts;
      table = front_long 1024 W.table h.table;
      order = front_long 2048 W.order h.order;
    }
