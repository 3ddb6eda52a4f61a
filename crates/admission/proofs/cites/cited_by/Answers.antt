use mathlib.Core.Path.{◌≡◌, sym, ◌∙◌, ap}
use Prim.Native.Nat.{ℕ}
use native.Mathlib.Omega.{arith}
use Rattle.sums.specs.Test.{any_to}
use Rattle.sums.proofs.LoopLaws.{any_to-none}
use Rattle.admission.proofs.SearchLaws.{at_end}
use Rattle.admission.proofs.CiteLaws.{is_at, is_found, is_turn, cell-there, row-past}
use Rattle.settlement.specs.Cells.{cell_in}
use Rattle.admission.proofs.cites.cited_by.Goals as goal

pub loop-p-init : goal.loop-p-init
loop-p-init c = (omega arith, any_to-none _)

pub overflow_add-from : goal.overflow_add-from
overflow_add-from c = omega (arith, c.within-k.ensures.inside (omega arith))

pub offset_bounds-cites-from : goal.offset_bounds-cites-from
offset_bounds-cites-from c = omega (arith, c.within-k.ensures.inside (omega arith))

pub bounds-cites-from : goal.bounds-cites-from
bounds-cites-from c = omega (arith, c.within-k.ensures.inside (omega arith))

pub returns-then-cites-from : goal.returns-then-cites-from
returns-then-cites-from c = is_found (cell_in c.args.cites.now c.args.i) _ c.args.n c.loop-p.p (omega (arith, c.within-k.ensures.most)) (cell-there c.args.cites.now c.args.i c.loop-p.p (omega arith) (omega (arith, c.within-k.ensures.inside (omega arith)))) c.if-cites-from.true

pub overflow_step-p : goal.overflow_step-p
overflow_step-p c = omega arith

pub loop-p-smaller : goal.loop-p-smaller
loop-p-smaller c = omega arith

pub loop-p-preserved : goal.loop-p-preserved
loop-p-preserved c = (omega arith, is_turn (cell_in c.args.cites.now c.args.i) _ _ c.loop-p.invariant.1 (cell-there c.args.cites.now c.args.i c.loop-p.p (omega arith) (omega (arith, c.within-k.ensures.inside (omega arith)))) c.if-cites-from.false)

pub returns-then-k-n : goal.returns-then-k-n
returns-then-k-n c = row-past c.args.cites.now c.args.i c.args.x c.args.n _ c.if-k-n.true (c.within-k.ensures.outside c.if-k-n.true) (let q : c.loop-p.p ≡ c.within-k.result = omega arith in ap (λ (j : ℕ). any_to j (is_at (cell_in c.args.cites.now c.args.i) c.args.x)) (sym q) ∙ c.loop-p.invariant.1)

pub returns-else-k-n : goal.returns-else-k-n
returns-else-k-n c = at_end any_to _ _ _ (omega (arith, c.within-k.ensures.most)) (omega arith) c.loop-p.invariant.1
