-- That there is a ledger in use for every run that has a sheet, whatever is then offered.
-- Assumes nothing.
use Rattle.std.specs.Prelude.{suc, ℕ, length, List, ◌≡◌}
use Rattle.demand.specs.Chain.{InUse, no_sheet}
use Rattle.demand.specs.Exists.{Lends, events_from}
use Rattle.plain.specs.Logs.{empty_logs}
use Rattle.plain.specs.Offers.{Offer}
use Rattle.replay.specs.Opening.{no_loading, open_from, sheet}
use Rattle.sheets.specs.Sheet.{Sheet}
use Rattle.state.specs.State.{Kept}
use Rattle.state.specs.declared.ledger.Ledger.{Ledger}
use Rattle.sums.specs.Seq.{All}

-- the run's bytes say the sheet S, and its blocks begin at an offset; the offers may be any
abbrev pub RunChainsExist : Type 0
RunChainsExist = (run : List ℕ) (S : Sheet) (at : ℕ) → open_from (suc (length run)) run 0 no_loading no_sheet ≡ sheet S at → (os : List Offer) → All Lends os
    → (l : Ledger) × (K : Kept) × InUse S (events_from S (empty_logs S) os) l K
