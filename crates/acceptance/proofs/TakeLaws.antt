-- A block that may be taken: its places can be judged once it is stored, and the cells are then what `taken_in` says.
-- Assumes nothing.
use Prim.Native.Nat.{◌*◌, ◌+◌, ◌<◌, ◌≤◌, min, ℕ}
use borrow.Author.Tests.{eqb-true}
use lib.Dec.{eqb}
use lib.ListN.{length}
use mathlib.Core.Bool.{Bool, false, true}
use mathlib.Core.Path.{◌≡◌, ap, refl}
use native.Mathlib.Decide.{dec_lt}
use native.Mathlib.Omega.{arith}
use Rattle.escrow.specs.Cells.{history_in}
use Rattle.state.proofs.Engine.{Roomy}
use Rattle.state.proofs.Grows.{entry_new, rank_old}
use Rattle.acceptance.proofs.Judged.{judged-all, with_good}
use Rattle.state.proofs.OnCells.{last_in}
use Rattle.state.specs.Cells.{Cells, heights_in, past_in, stored_in, taken_in}
use Rattle.acceptance.specs.Judging.{Judgeable, judged_good}
use Rattle.state.specs.State.{Kept, cells_of, sheet_of, sizes_of}
use Rattle.acceptance.specs.Taking.{Takeable}
use Rattle.ordering.proofs.Usable.{climb-le, ordered}
use Rattle.ordering.specs.Order.{last_of}
use Rattle.ordering.specs.Table.{Ordered, count_in, rank_in}
use Rattle.plain.proofs.Admits.{Admits, admitted}
use Rattle.plain.proofs.AnswerLaws.{lent_enough}
use Rattle.plain.specs.Logs.{Values}
use Rattle.plain.specs.Offers.{offer_needs}
use Rattle.settlement.specs.Tables.{Buffers}
use Rattle.sheets.proofs.SheetCells.{sheet-count, sheet-m}
use Rattle.sheets.specs.Sheet.{Sheet, tx_count}
use Rattle.sums.specs.Fold.{fold_to}
use Rattle.sums.specs.Test.{pick}
use Rattle.state.specs.declared.ledger.Ledger.{Ledger}

-- every buffer is as long as the formulas say
pub record Room (l : Ledger) (K : Kept) (W : Buffers) : Type 0 where
  pub ranks : 128 * l.loading.m ≤ length K.ranks
  pub cuts : 2048 * l.loading.m ≤ length K.cuts
  pub cites : 4096 * l.loading.m ≤ length K.cites
  pub good : 4096 * l.loading.m ≤ length K.good
  pub counts : 2 * l.loading.t ≤ length W.counts
  pub table : l.loading.t ≤ length W.table
  pub order : 128 * l.loading.m ≤ length W.order

module _ (l : Ledger) (K : Kept) (W : Buffers) (b : Values) (T : Takeable l K W b) where
  abbrev S : Sheet
  S = sheet_of l K

  abbrev C : Cells
  C = cells_of l K

  m_is : (sheet_of l K).m ≡ l.loading.m
  m_is = sheet-m K.sheet (sizes_of l)

  t_is : tx_count (sheet_of l K) ≡ l.loading.t
  t_is = sheet-count K.sheet (sizes_of l)

  pub room_of : Room l K W
  unfolding offer_needs
  room_of =
      let e1 = lent_enough _ _ _ _ T.lent in
      let e2 = lent_enough _ _ _ _ e1.1 in
      let e3 = lent_enough _ _ _ _ e2.1 in
      let e4 = lent_enough _ _ _ _ e3.1 in
      let e5 = lent_enough _ _ _ _ e4.1 in
      let e6 = lent_enough _ _ _ _ e5.1 in
      let e7 = lent_enough _ _ _ _ e6.1 in
      let e8 = lent_enough _ _ _ _ e7.1 in
      record {
        ranks = omega (arith, e2.0, m_is);
        cuts = omega (arith, e3.0, m_is);
        cites = omega (arith, e4.0, m_is);
        good = omega (arith, e5.0, m_is);
        counts = omega (arith, e6.0, t_is);
        table = omega (arith, e7.0, t_is);
        order = omega (arith, e8.0, m_is);
      }

  pub roomy : Roomy (sheet_of l K).m (cells_of l K)
  roomy = record {
    heights = T.sixteen;
    ranks = omega (arith, room_of.ranks, m_is);
    cuts = omega (arith, room_of.cuts, m_is);
    cites = omega (arith, room_of.cites, m_is);
    good = omega (arith, room_of.good, m_is);
  }

  A : Admits (sheet_of l K) (past_in (cells_of l K)) b
  A = admitted (sheet_of l K) (past_in (cells_of l K)) b T.admitted

  height_of : (j : ℕ) → (past_in (cells_of l K)).height j ≡ heights_in (cells_of l K) j
  unfolding past_in history_in
  height_of j = refl

  pub there : b.instance < l.loading.m
  there = omega (arith, A.there, m_is)

  pub space : heights_in (cells_of l K) b.instance < 128
  space = omega (arith, A.room, height_of b.instance)

  above : last_of (rank_in K.ranks b.instance) (heights_in (cells_of l K) b.instance) < b.rank
  above = omega (arith, A.above, last_in (cells_of l K) b.instance)

  short : (j : ℕ) → heights_in (cells_of l K) j ≤ 128
  short j = omega (arith, climb-le (rank_in K.ranks j) (min (count_in l.heights j) 128))

  entry-in : (j : ℕ) → j < l.loading.m → count_in b.cut j ≤ heights_in (cells_of l K) j
  entry-in j u = omega (arith, A.cut_in j (omega (arith, m_is)), height_of j)

  pub entries_small : (j : ℕ) → count_in b.cut j ≤ 128
  entries_small j = elim (dec_lt j l.loading.m) [ yes u ↦ omega (arith, entry-in j u, short j) | no u ↦ omega (arith, T.unused j (omega arith)) ]

  -- the whole blocks of the new block's views
  whole : ℕ → ℕ
  whole j = pick (eqb j b.instance) (heights_in (cells_of l K) b.instance) (count_in b.cut j)

  whole_in : (j : ℕ) → j < l.loading.m → whole j ≤ heights_in (cells_of l K) j
  unfolding whole pick
  whole_in j u = go (eqb j b.instance) refl
    where
      go : (t : Bool) → eqb j b.instance ≡ t → pick t (heights_in (cells_of l K) b.instance) (count_in b.cut j) ≤ heights_in (cells_of l K) j
      go true e = omega (arith, ap (heights_in (cells_of l K)) (eqb-true j b.instance e))
      go false e = entry-in j u

  -- where the ranks are read, the new one does not stand
  rank-kept : (j n : ℕ) → j < l.loading.m → n < heights_in (cells_of l K) j → rank_in (stored_in b (cells_of l K)).ranks j n ≡ rank_in K.ranks j n
  unfolding stored_in
  rank-kept j n u w =
      rank_old (sheet_of l K).m (omega (arith, m_is, T.few)) (cells_of l K) roomy b A.there space above j n (omega (arith, short j)) (λ e. omega (arith, ap (heights_in (cells_of l K)) e))

  pub rises : Ordered l.loading.m (rank_in (stored_in b (cells_of l K)).ranks) (λ j. pick (eqb j b.instance) (heights_in (cells_of l K) b.instance) (count_in b.cut j))
  unfolding whole
  rises =
      let o = ordered l.loading.m (rank_in K.ranks) (count_in l.heights) in
      record {
        short = λ j u. omega (arith, whole_in j u, short j);
        rising = λ j n u w. omega (
          arith,
          whole_in j u,
          o.rising j n u (omega (arith, whole_in j u)),
          rank-kept j n u (omega (arith, whole_in j u)),
          rank-kept j (n + 1) u (omega (arith, whole_in j u)),
        );
      }

  pub judgeable : Judgeable (sizes_of l) (stored_in b (cells_of l K)).ranks b.cut b.instance (heights_in (cells_of l K) b.instance) W
  judgeable = record {
    few = T.few;
    registers = T.registers;
    there = there;
    entries = entries_small;
    ordered = rises;
    counts_long = room_of.counts;
    table_long = room_of.table;
    order_long = room_of.order;
  }

  pub taken_is : taken_in (sheet_of l K) b (cells_of l K)
      ≡ with_good (stored_in b (cells_of l K)) (fold_to 32 (λ q. judged_good (sheet_of l K) (stored_in b (cells_of l K)).ranks (stored_in b (cells_of l K)).cites b.cut
      b.instance (heights_in (cells_of l K) b.instance * 32 + q)) K.good)
  unfolding taken_in stored_in
  taken_is =
      judged-all (sheet_of l K) (omega (arith, m_is, T.some)) (stored_in b (cells_of l K)) b.cut b.instance (heights_in (cells_of l K) b.instance)
      (λ e u. entry_new (sheet_of l K).m (omega (arith, m_is, T.few)) (cells_of l K) roomy b A.there space above e (omega (arith, m_is, T.few))) 32 (omega arith)
