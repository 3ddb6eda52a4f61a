-- The full view: as the code makes it, what its settlement asks, and what it leaves.
-- Assumes nothing.
use Prim.Native.Nat.{◌*◌, ◌≤◌, min, ℕ}
use lib.ListN.{get_or-eq_default, length, take}
use mathlib.Core.List.{List}
use mathlib.Core.Path.{◌∙◌, ◌≡◌, ap, fun_ext}
use native.Mathlib.Omega.{arith}
use Rattle.ordering.proofs.Usable.{climb-le, climb_zero, ordered}
use Rattle.ordering.specs.Table.{Ordered, climb, count_in, rank_in, usable}
use Rattle.plain.specs.Answer.{accepted}
use Rattle.readings.proofs.RoomLaws.{room}
use Rattle.readings.specs.Inner.{SettlesFull, places_in, settling_answer}
use Rattle.settlement.specs.Cells.{rows_in}
use Rattle.settlement.specs.Settlement.{contracts}
use Rattle.settlement.specs.Tables.{Buffers, Settled, whole_of}
use Rattle.sheets.specs.Sheet.{sheet_in}
use Rattle.state.proofs.WorkLaws.{settled-beyond}
use Rattle.state.specs.State.{Kept, sizes_of}
use Rattle.sums.proofs.FilledLaws.{Filled, filled_end}
use Rattle.sheets.specs.declared.sheet.Sizes.{Sizes}
use Rattle.state.specs.declared.ledger.Ledger.{Ledger}

-- ---- the view, instance by instance

module _ (l : Ledger) (ranks blocks : List ℕ) (e : count_in blocks ≡ usable (rank_in ranks) (count_in l.heights)) where
  -- at most 4096 places
  pub places_fit : (j n : ℕ) → n ≡ count_in blocks j → n * 32 ≤ 4096
  places_fit j n q =
      let u : count_in blocks j ≡ usable (rank_in ranks) (count_in l.heights) j = ap (λ (f : ℕ → ℕ). f j) e in
      omega (arith, u, climb-le (rank_in ranks j) (min (count_in l.heights j) 128))

  places_are : (λ j. count_in blocks j * 32) ≡ places_in l ranks
  places_are = ap {B = ℕ → ℕ} (λ (f : ℕ → ℕ) (j : ℕ). f j * 32) e

  -- none past the sixteenth instance
  places-past : length l.heights ≡ 16 → (j : ℕ) → 16 ≤ j → count_in blocks j * 32 ≡ 0
  places-past s j h =
      let a = get_or-eq_default l.heights 0 {n = j} (omega arith) in
      let z : min (count_in l.heights j) 128 ≡ 0 = omega arith in
      let u : count_in blocks j ≡ usable (rank_in ranks) (count_in l.heights) j = ap (λ (f : ℕ → ℕ). f j) e in
      omega (arith, u, ap (climb (rank_in ranks j)) z, climb_zero (rank_in ranks j))

  pub view_done : (view : List ℕ) (j : ℕ) → length l.heights ≡ 16 → 16 ≤ j → Filled 16 (λ i. count_in blocks i * 32) view j → count_in view ≡ places_in l ranks
  view_done view j s h k = filled_end 16 (λ i. count_in blocks i * 32) view j h (places-past s) k ∙ places_are

-- ---- its settlement

module _ (l : Ledger) (K : Kept) (W : Buffers) (z : Sizes) (ez : z ≡ sizes_of l) (view : List ℕ) (ev : count_in view ≡ places_in l K.ranks) (ready : settling_answer l K W ≡ accepted) where
  rises : Ordered l.loading.m (rank_in K.ranks) (whole_of (places_in l K.ranks))
  rises =
      let h : usable (rank_in K.ranks) (count_in l.heights) ≡ whole_of (places_in l K.ranks) = fun_ext (λ j. omega arith) in
      rw (← h) (ordered l.loading.m (rank_in K.ranks) (count_in l.heights))

  pub settle_ready : (Ordered z.m (rank_in K.ranks) (whole_of (count_in view))) × (2 * z.t ≤ length W.counts) × (z.t ≤ length W.table) × (128 * z.m ≤ length W.order) × (z.m ≤ 16) × (z.g ≤ 64)
  settle_ready =
      let r = room l K W ready in
      rw (ez, ev) (rises, r.counts, r.table, r.order, r.header.instances, r.header.registers)

  pub settle_done : (values : List ℕ) (W' : Buffers)
      → (Settled z (sheet_in K.sheet z) (rows_in K.ranks K.cites K.good) (count_in view) W W') × (take z.g values ≡ (contracts (sheet_in K.sheet z) (rows_in K.ranks K.cites K.good) (count_in view)).registers)
      → SettlesFull l K W values W'
  unfolding rows_in
  settle_done values W' d =
      let s = rw (ez, ev) at d in
      record {
        settled = s.0;
        registers = s.1;
        beyond = settled-beyond K.sheet (sizes_of l) (rows_in K.ranks K.cites K.good) (places_in l K.ranks) W W' (room l K W ready).header.instances rises s.0;
      }
