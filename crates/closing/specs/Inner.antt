-- What the lists of a reading hold once they are taken. Only the contract of an inner function cites this.
-- Assumes nothing.
use Rattle.std.specs.Prelude.{ℕ, length, take, List, [], ◌∷◌, ◌≡◌}
use Rattle.plain.specs.Report as report
use Rattle.plain.specs.Report.{lists_of, value_of}
use Rattle.readings.specs.Reading.{report_in}
use Rattle.settlement.specs.Tables.{Buffers}
use Rattle.state.specs.State.{Beyond, Kept, sizes_of}
use Rattle.state.specs.declared.ledger.Ledger.{Ledger}

-- lists as long as any sheet needs
pub record Long (statuses free held cells : List ℕ) : Type 0 where
  pub transactions : length statuses ≡ 1024
  pub accounts : length free ≡ 1024
  pub accounts_too : length held ≡ 1024
  pub registers : length cells ≡ 64

-- the four readings that settle: three stand at the front of their lists, and k is the share
pub record Takes (l : Ledger) (K : Kept) (W : Buffers) (k : ℕ) (W' : Buffers) (statuses free held cells : List ℕ) : Type 0 where
  pub settled : take l.loading.t statuses ∷ [] ≡ lists_of report.settlements (report_in l K)
  pub amounts : take l.loading.a free ∷ take l.loading.a held ∷ [] ≡ lists_of report.accounts (report_in l K)
  pub registers : take l.loading.g cells ∷ [] ≡ lists_of report.registers (report_in l K)
  pub share : k ≡ value_of report.share (report_in l K)
  pub beyond : Beyond (sizes_of l) W W'
