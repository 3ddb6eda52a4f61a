-- A run's sheet, read from its bytes (document 01, "Slips": "A run is one head, one starts slip, t transactions in number order, then blocks").
-- Assumes nothing.
use Rattle.std.specs.Prelude.{suc, zero, ℕ, eqb, List, Ok, Err, Some, None}
use Rattle.demand.specs.Chain.{sheet_with}
use Rattle.frames.specs.Frame.{body_at}
use Rattle.frames.specs.Step.{kind_due, step_at}
use Rattle.frames.specs.declared.step.Loading.{Loading}
use Rattle.frames.specs.Step.{Step}
use Rattle.refusals.specs.declared.Refusal.{Refusal}
use Rattle.refusals.specs.declared.Refusal.TheVariants.{Short}
use Rattle.sheets.specs.Sheet.{Sheet}
use Rattle.state.specs.State.{fresh_ledger}
use Rattle.sums.specs.Test.{pick}

-- before any frame
abbrev pub no_loading : Loading
no_loading = fresh_ledger.loading

-- what the bytes up to the first block say: the sheet, and where the blocks begin; or the refusal that ends the reading
pub data Opened : Type 0 where
  sheet : Sheet → ℕ → Opened
  ended : Refusal → Opened

-- after a step at an offset: the rest follows a frame that was taken
abbrev pub open_step : (Loading → ℕ → Opened) → ℕ → Step → Opened
open_step rest at (Ok (Some (next, end))) = rest next end
open_step rest at (Err r) = ended r
open_step rest at (Ok None) = ended (Short at)

-- from an offset and the sheet so far. A frame has 6 bytes or more, so that as many as the run has bytes, and one more, are never used up
unfoldable pub open_from : ℕ → List ℕ → ℕ → Loading → Sheet → Opened
open_from zero run at s S = ended (Short at)
open_from (suc fuel) run at s S =
    pick (eqb (kind_due s) 4) (sheet S at) (open_step (λ next end. open_from fuel run end next (sheet_with s (body_at run at) S)) at (step_at run at s))
