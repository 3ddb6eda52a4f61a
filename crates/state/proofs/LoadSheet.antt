-- A frame of the sheet, by the step that it was.
-- Assumes nothing.
use Rattle.std.proofs.Common.{Ok, None}
use Prim.Native.Nat.{ℕ}
use mathlib.Core.Bool.{false, true}
use mathlib.Core.List.{List}
use mathlib.Core.Path.{◌∙◌, ◌≡◌, ap, refl, sym}
use native.Mathlib.Omega.{arith}
use Rattle.frames_load.specs.Load.{LoadStep}
use Rattle.state.specs.Loading.{LoadsSheet, after_step}
use Rattle.state.specs.State.{complete}
use Rattle.frames.specs.Step.{Step}
use Rattle.state.specs.declared.ledger.Ledger.{Ledger}

never : false ≡ true → ⊥
never z = let w : ◌≡◌ {A = ℕ} 0 1 = cc in omega arith

pub sheet-whole : (l : Ledger) (run : List ℕ) (at : ℕ) (cells : List ℕ) → complete l ≡ true → LoadsSheet l run at cells cells (after_step l (Ok None))
sheet-whole l run at cells t = record { loads = λ f. absurd (never (sym f ∙ t)); whole = λ e. (refl, refl) }

pub sheet-step : (l : Ledger) (run : List ℕ) (at : ℕ) (before after : List ℕ) (s s' : Step) → complete l ≡ false → LoadStep run at l.loading before after s → s ≡ s' → LoadsSheet l run at before after (after_step l s')
sheet-step l run at before after s s' f L e = record { loads = λ q. (s, L, ap (after_step l) (sym e)); whole = λ t. absurd (never (sym f ∙ t)) }
