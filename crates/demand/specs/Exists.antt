-- That there are ledgers in use, for every sheet and every list of offers: demand 3 is a claim about something.
-- Assumes nothing.
use Rattle.std.specs.Prelude.{ℕ, true, List, [], ◌∷◌, ◌≡◌}
use Rattle.demand.specs.Chain.{Event, InUse, Opening, offered}
use Rattle.plain.specs.Logs.{Logs, empty_logs, history_of}
use Rattle.plain.specs.Offers.{Offer, lent_of}
use Rattle.plain.specs.Plain.{answer, next}
use Rattle.settlement.specs.Tables.{Buffers}
use Rattle.sheets.specs.Sheet.{Sheet}
use Rattle.state.specs.State.{Kept, complete, lengths_of}
use Rattle.state.specs.declared.ledger.Ledger.{Ledger}
use Rattle.sums.specs.Seq.{All}

-- each offer with the plain ledger's answer, from the logs L on
unfoldable pub events_from : Sheet → Logs → List Offer → List Event
events_from S L [] = []
events_from S L (o ∷ os) = offered o (answer S (history_of L) o) ∷ events_from S (next S L o) os

-- eight buffers are lent, of whatever lengths
abbrev pub Lends : Offer → Type 0
Lends o = (K : Kept) × (W : Buffers) × (lent_of o ≡ lengths_of K W)

-- S is a sheet that loading completed
abbrev pub ChainsExist : Type 0
ChainsExist = (S : Sheet) (l : Ledger) (cells : List ℕ) → Opening l cells S → complete l ≡ true → (os : List Offer) → All Lends os
    → (l' : Ledger) × (K' : Kept) × InUse S (events_from S (empty_logs S) os) l' K'
