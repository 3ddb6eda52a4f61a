-- What a call that loads a frame of the sheet promises (document 01, "Slips", and refusals 1 to 7 and 16).
-- Assumes nothing.
use Rattle.std.specs.Prelude.{ℕ, false, true, List, ◌≡◌, Ok, Err, Some, None, Option, Result}
use Rattle.frames_load.specs.Load.{LoadStep}
use Rattle.state.specs.State.{complete}
use Rattle.frames.specs.Step.{Step}
use Rattle.refusals.specs.declared.Refusal.{Refusal}
use Rattle.state.specs.declared.load.Loaded.{Loaded}
use Rattle.state.specs.declared.ledger.Ledger.{Ledger}

-- the answer to a call: where the next frame begins; why the frame was turned away; or that nothing is left to load
abbrev pub Taken : Type 0
Taken = Result (Option ℕ) Refusal

-- by the step that the frame was: a frame that was taken changes the sheet so far, no call changes the blocks
abbrev pub after_step : Ledger → Step → Loaded
after_step l (Ok (Some (next, end))) = record { answer = Ok (Some end); ledger = record { loading = next; heights = l.heights } }
after_step l (Err r) = record { answer = Err r; ledger = l }
after_step l (Ok None) = record { answer = (Ok None); ledger = l }

-- before and after are the sheet's cells. A step says what it leaves byte for byte, and what a frame that was taken adds to the sheet that the cells decode to. Once the sheet is complete nothing is done
pub record LoadsSheet (l : Ledger) (run : List ℕ) (at : ℕ) (before after : List ℕ) (r : Loaded) : Type 0 where
  pub loads : complete l ≡ false → (s : Step) × (LoadStep run at l.loading before after s) × (r ≡ after_step l s)
  pub whole : complete l ≡ true → (r ≡ after_step l (Ok None)) × (after ≡ before)
