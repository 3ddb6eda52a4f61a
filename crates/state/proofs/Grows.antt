-- From cells to logs: storing a block's cells makes the logs grow by it.
-- Assumes nothing.
use Prim.Native.Nat.{◌*◌, ◌+◌, ◌<◌, ◌≤◌, min, ℕ}
use lib.ListN.{get_or, set}
use lib.Seq.{get_or-set_other, get_or-set_same}
use mathlib.Core.Logic.{◌≢◌, ◌⊎◌, inl, inr}
use mathlib.Core.Path.{◌≡◌, ap, refl}
use native.Mathlib.Decide.{dec_lt, ℕ_discrete}
use native.Mathlib.Omega.{arith}
use Rattle.escrow.specs.Cells.{cut_in, history_in}
use Rattle.escrow.specs.Outcome.{rows_of}
use Rattle.state.specs.Cells.{Cells, heights_in, past_in, stored_in}
use Rattle.plain.proofs.Engine.{Grown, rows_by}
use Rattle.ordering.proofs.Usable.{climb-le, usable-more, usable_other}
use Rattle.ordering.specs.Order.{last_of}
use Rattle.ordering.specs.Table.{count_in, rank_in}
use Rattle.sums.proofs.SeqLaws.{written_at, written_out}
use Rattle.state.proofs.Engine.{Roomy, engine_in}
use Rattle.plain.specs.Logs.{Values}
use Rattle.settlement.specs.Cells.{cell_in, rows_in}
use Rattle.settlement.specs.View.{no_cite}

-- the rows that the code's escrow functions see are the engine's
pub rows-in : (C : Cells) → rows_by (engine_in C) ≡ rows_in C.ranks C.cites C.good
unfolding past_in history_in rows_of rows_in
rows-in C = refl

-- an instance has at most 128 blocks
pub heights-most : (C : Cells) (j : ℕ) → heights_in C j ≤ 128
heights-most C j = omega (arith, climb-le (rank_in C.ranks j) (min (count_in C.heights j) 128))

module _ (m : ℕ) (small : m ≤ 16) (C : Cells) (room : Roomy m C) (b : Values) (there : b.instance < m)
    (space : heights_in C b.instance < 128) (above : last_of (rank_in C.ranks b.instance) (heights_in C b.instance) < b.rank) where
  abbrev i : ℕ
  i = b.instance

  abbrev h : ℕ
  h = heights_in C b.instance

  -- ---- ranks and heights

  rank_new : rank_in (set C.ranks (i * 128 + h) b.rank) i h ≡ b.rank
  rank_new = get_or-set_same C.ranks (b.instance * 128 + heights_in C b.instance) b.rank 0 (omega (arith, room.ranks))

  pub rank_old : (j n : ℕ) → n < 128 → (j ≡ i → n < h) → rank_in (set C.ranks (i * 128 + h) b.rank) j n ≡ rank_in C.ranks j n
  rank_old j n l e = get_or-set_other C.ranks (b.instance * 128 + heights_in C b.instance) (j * 128 + n) b.rank 0 (λ z. apart z (ℕ_discrete j b.instance))
    where
      apart : j * 128 + n ≡ b.instance * 128 + heights_in C b.instance → Dec (j ≡ b.instance) → ⊥
      apart z (yes q) = omega (arith, e q, ap (λ (k : ℕ). k * 128) q)
      apart z (no q) = q (omega arith)

  height_new : heights_in (stored_in b C) i ≡ h + 1
  unfolding stored_in
  height_new = usable-more (rank_in C.ranks) (rank_in (stored_in b C).ranks) (count_in C.heights) (count_in (stored_in b C).heights) b.instance b.rank space
      (λ n l. rank_old b.instance n (omega arith) (λ q. l)) rank_new above
      (get_or-set_same C.heights b.instance _ 0 (omega (arith, room.heights)))

  height_other : (j : ℕ) → j ≢ i → heights_in (stored_in b C) j ≡ heights_in C j
  unfolding stored_in
  height_other j e = usable_other (rank_in C.ranks) (rank_in (stored_in b C).ranks) (count_in C.heights) (count_in (stored_in b C).heights) j (λ n l. rank_old j n l (λ q. absurd (e q)))
      (get_or-set_other C.heights b.instance j _ 0 e)

  -- ---- cut entries

  pub entry_new : (e : ℕ) → e < 16 → cut_in (stored_in b C).cuts i h e ≡ get_or b.cut e 0
  unfolding stored_in
  entry_new e l = written_at C.cuts _ 16 (λ e. get_or b.cut e 0) e 0 l (omega (arith, room.cuts))

  entry_old : (j n e : ℕ) → e < 16 → n < 128 → (j ≡ i → n < h) → cut_in (stored_in b C).cuts j n e ≡ cut_in C.cuts j n e
  unfolding stored_in
  entry_old j n e l u w = written_out C.cuts _ 16 (λ e. get_or b.cut e 0) _ 0 (side (ℕ_discrete j b.instance) (dec_lt j b.instance))
    where
      side : Dec (j ≡ b.instance) → Dec (j < b.instance)
          → ((j * 128 + n) * 16 + e < (b.instance * 128 + heights_in C b.instance) * 16) ⊎ ((b.instance * 128 + heights_in C b.instance) * 16 + 16 ≤ (j * 128 + n) * 16 + e)
      side (yes q) d = inl (omega (arith, w q, ap (λ (k : ℕ). k * 128) q))
      side (no q) (yes d) = inl (omega arith)
      side (no q) (no d) = inr (omega arith)

  -- ---- citation places

  stretch : (j p : ℕ) → p < 4096 → (j ≡ i → p < h * 32) → (j * 4096 + p < i * 4096 + h * 32) ⊎ (i * 4096 + h * 32 + 32 ≤ j * 4096 + p)
  stretch j p l w = side (ℕ_discrete j b.instance) (dec_lt j b.instance)
    where
      side : Dec (j ≡ b.instance) → Dec (j < b.instance)
          → (j * 4096 + p < b.instance * 4096 + heights_in C b.instance * 32) ⊎ (b.instance * 4096 + heights_in C b.instance * 32 + 32 ≤ j * 4096 + p)
      side (yes q) d = inl (omega (arith, w q, ap (λ (k : ℕ). k * 4096) q))
      side (no q) (yes d) = inl (omega arith)
      side (no q) (no d) = inr (omega arith)

  cell_new : (q : ℕ) → q < 32 → cell_in (stored_in b C).cites i (h * 32 + q) ≡ get_or b.cites q no_cite
  unfolding stored_in
  cell_new q l =
      let e : b.instance * 4096 + (heights_in C b.instance * 32 + q) ≡ b.instance * 4096 + heights_in C b.instance * 32 + q = omega arith in
      rw e (written_at C.cites _ 32 (λ q. get_or b.cites q no_cite) q no_cite l (omega (arith, room.cites)))

  cell_old : (j p : ℕ) → p < 4096 → (j ≡ i → p < h * 32) → cell_in (stored_in b C).cites j p ≡ cell_in C.cites j p
  unfolding stored_in
  cell_old j p l w = written_out C.cites _ 32 (λ q. get_or b.cites q no_cite) _ no_cite (stretch j p l w)

  own_below : (j n : ℕ) → n < heights_in C j → j ≡ i → n < h
  own_below j n l q = omega (arith, ap (heights_in C) q)

  -- the logs have grown by the block
  pub store_grown : Grown m b (engine_in C).past (engine_in (stored_in b C)).past
  unfolding past_in history_in
  store_grown = record {
    more = height_new;
    others = λ j l e. height_other j e;
    old_rank = λ j n l u. unfold stored_in in rank_old j n (omega (arith, heights-most C j)) (own_below j n u);
    old_entry = λ j n e l u k. entry_old j n e (omega arith) (omega (arith, heights-most C j)) (own_below j n u);
    old_cell = λ j p l u. cell_old j p (omega (arith, heights-most C j)) (λ q. omega (arith, ap (heights_in C) q));
    new_rank = unfold stored_in in rank_new;
    new_entry = λ e k. entry_new e (omega arith);
    new_cell = cell_new;
  }
