-- A run that has a sheet loads it, so every list of offers is that of some ledger in use on it.
-- Assumes nothing.
use Rattle.std.proofs.Common.{Ok, Err}
use Prim.Native.Nat.{◌≤◌, suc, ℕ}
use lib.ListN.{length, length-replicate, replicate}
use mathlib.Core.Bool.{true}
use mathlib.Core.List.{List, []}
use mathlib.Core.Path.{◌∙◌, ◌≡◌, ap, refl, subst}
use native.Mathlib.Omega.{arith}
use Rattle.demand.proofs.Exists.{chains_exist}
use Rattle.demand.proofs.Opened.{sheet_said}
use Rattle.demand.specs.Chain.{Opening, no_sheet}
use Rattle.refusals.specs.Refusals.{Checked}
use Rattle.replay.proofs.OpenLaws.{Said, came_to, opens_said}
use Rattle.replay.specs.Exists.{RunChainsExist}
use Rattle.replay.specs.Inner.{Stand, stand_of}
use Rattle.replay.specs.Opening.{Opened, ended, no_loading, open_from, sheet}
use Rattle.sheets.specs.Sheet.{Sheet}
use Rattle.state.specs.State.{complete, kept}
use Rattle.state.specs.declared.ledger.Ledger.{Ledger}

-- the sheet of what opening came to
sheet_or : Sheet → Opened → Sheet
sheet_or T (sheet S at) = S
sheet_or T (ended r) = T

-- a run that was opened to a sheet stands at a complete ledger with that sheet
loaded : (c : Checked) (l : Ledger) (cells : List ℕ) (at at' : ℕ) (S T : Sheet) → came_to c l cells at ≡ sheet S at' → (c ≡ Ok tt → complete l ≡ true) → Opening l cells T
    → (complete l ≡ true) × Opening l cells S
unfolding sheet_or
loaded (Ok _) l cells at at' S T e whole o =
    (whole refl, subst (Opening l cells) (sheet_said T l (kept cells [] [] [] []) o (whole refl) ∙ ap (sheet_or T) e) o)
loaded (Err r) l cells at at' S T e whole o = absurd (let z : ◌≡◌ {A = ℕ} 0 1 = cc in omega arith)

exist_in : (n : ℕ) → 110592 ≤ n → RunChainsExist
exist_in n h run S at e os lends =
    let s : Stand = stand_of run (replicate n 0) in
    let p : Said (open_from (suc (length run)) run 0 no_loading no_sheet) (record { result = s.result; cells = s.cells }) =
    opens_said {run = run} {before = replicate n 0} {after = s.cells} {r = s.result} (omega (arith, h, length-replicate {A = ℕ} n 0)) (record { result = refl; cells = refl }) in
    let (T, o) = p.opened in
    let (whole, q) = loaded s.result.answer s.result.ledger s.cells s.result.at at S T (p.came ∙ e) p.whole o in
    chains_exist S s.result.ledger s.cells q whole os lends

pub run_chains_exist : RunChainsExist
run_chains_exist = exist_in 110592 (omega arith)
