-- An accepted block, put into the cells: what it takes, and what it leaves. Only contracts of inner functions cite this.
-- Assumes nothing.
use Rattle.std.specs.Prelude.{◌≤◌, ℕ, length, set, ◌≡◌}
use Rattle.state.specs.Cells.{past_in, taken_in}
use Rattle.state.specs.State.{Beyond, Kept, cells_of, lengths_of, sheet_of, sizes_of}
use Rattle.ordering.specs.Table.{count_in}
use Rattle.plain.specs.Answer.{accepted}
use Rattle.plain.specs.Logs.{Values}
use Rattle.plain.specs.Offers.{offer_needs}
use Rattle.plain.specs.Plain.{block_answer, lent_answer}
use Rattle.settlement.specs.Tables.{Buffers}
use Rattle.state.specs.declared.ledger.Ledger.{Ledger}

-- one block more in instance i
abbrev pub raised_to : Ledger → ℕ → ℕ → Ledger
raised_to l i n = record { loading = l.loading; heights = set l.heights i n }

-- the block b may be taken: no refusal applies
pub record Takeable (l : Ledger) (K : Kept) (W : Buffers) (b : Values) : Type 0 where
  pub some : 1 ≤ l.loading.m
  pub few : l.loading.m ≤ 16
  pub registers : l.loading.g ≤ 64
  pub sixteen : length l.heights ≡ 16
  pub lent : lent_answer (offer_needs (sheet_of l K)) (lengths_of K W) ≡ accepted
  pub unused : (j : ℕ) → l.loading.m ≤ j → count_in b.cut j ≡ 0
  pub admitted : block_answer (sheet_of l K) (past_in (cells_of l K)) b ≡ accepted

pub record Takes (l : Ledger) (K : Kept) (W : Buffers) (b : Values) (l' : Ledger) (K' : Kept) (W' : Buffers) : Type 0 where
  pub loading : l'.loading ≡ l.loading
  pub cells : cells_of l' K' ≡ taken_in (sheet_of l K) b (cells_of l K)
  pub beyond : Beyond (sizes_of l) W W'
