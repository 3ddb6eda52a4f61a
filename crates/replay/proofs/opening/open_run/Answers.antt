use mathlib.Core.Path.{refl, sym, ◌∙◌}
use native.Mathlib.Omega.{arith}
use Rattle.std.proofs.Common.{rules}
use Rattle.replay.proofs.OpenLaws.{comes_first, comes_whole, step_end, step-next, step-refused}
use Rattle.replay.proofs.opening.open_run.Goals as goal

pub loop-sheet-init : goal.loop-sheet-init
loop-sheet-init c = (comes_first _ _ _ c.fresh-ledger.ensures, refl)

pub loop-sheet-smaller : goal.loop-sheet-smaller
loop-sheet-smaller c = let n = step-next _ _ _ _ _ _ _ c.loop-sheet.invariant.0 (sym c.is_complete.ensures ∙ c.loop-sheet-test.true) c.load_sheet-loaded.ensures c.in-Ok-Some.end (search rules) in omega (arith, n.1, n.0.inside)

pub loop-sheet-preserved : goal.loop-sheet-preserved
loop-sheet-preserved c = ((step-next _ _ _ _ _ _ _ c.loop-sheet.invariant.0 (sym c.is_complete.ensures ∙ c.loop-sheet-test.true) c.load_sheet-loaded.ensures c.in-Ok-Some.end (search rules)).0, c.sheet-1.given ∙ c.loop-sheet.invariant.1)

pub shape_of-sheet-in-Err : goal.shape_of-sheet-in-Err
shape_of-sheet-in-Err c = c.sheet-1.given ∙ c.loop-sheet.invariant.1

pub returns-in-Err : goal.returns-in-Err
returns-in-Err c = step-refused _ _ _ _ _ _ _ c.loop-sheet.invariant.0 (sym c.is_complete.ensures ∙ c.loop-sheet-test.true) c.load_sheet-loaded.ensures _ c.in-Err.is

pub shape_of-sheet-in-Ok-None : goal.shape_of-sheet-in-Ok-None
shape_of-sheet-in-Ok-None c = c.sheet-1.given ∙ c.loop-sheet.invariant.1

pub returns-in-Ok-None : goal.returns-in-Ok-None
returns-in-Ok-None c = step_end _ _ _ _ _ _ _ c.loop-sheet.invariant.0 (sym c.is_complete.ensures ∙ c.loop-sheet-test.true) c.load_sheet-loaded.ensures (search rules)

pub shape_of-sheet : goal.shape_of-sheet
shape_of-sheet c = c.loop-sheet.invariant.1

pub returns : goal.returns
returns c = comes_whole _ _ _ _ _ (sym c.is_complete.ensures ∙ c.loop-sheet-test.false) c.loop-sheet.invariant.0
