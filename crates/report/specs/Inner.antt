-- What an inner function of the report promises. Only its contract cites this.
-- Assumes nothing.
use Rattle.std.specs.Prelude.{ℕ, List, []}
use Rattle.demand.specs.Chain.{InUse}
use Rattle.replay.specs.Opening.{sheet}
use Rattle.replay.specs.Reading.{opened_text}
use Rattle.sheets.specs.Sheet.{Sheet}
use Rattle.state.specs.State.{Kept}
use Rattle.state.specs.declared.ledger.Ledger.{Ledger}
use Rattle.text.specs.Wrote.{Wrote}

-- the text of a ledger that was just loaded, from its `run` line on: the blocks begin at an offset
pub record PutsOpened (run : List ℕ) (at : ℕ) (l : Ledger) (K : Kept) (out out' : List ℕ) (r : ℕ) : Type 0 where
  pub text : (S : Sheet) → InUse S [] l K → Wrote out 0 (opened_text run (sheet S at)) out' r
