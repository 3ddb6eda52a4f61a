use mathlib.Core.Path.{refl, ap}
use Prim.Native.Nat.{ℕ, ◌*◌}
use native.Mathlib.Omega.{arith}
use Rattle.readings.proofs.SettledLaws.{places_fit, view_done}
use Rattle.sums.proofs.FilledLaws.{filled_more, filled_none}
use Rattle.readings.proofs.full.full_view.Goals as goal

pub loop-j-init : goal.loop-j-init
loop-j-init c = (omega arith, filled_none 16 _ _ refl)

pub overflow_mul-view : goal.overflow_mul-view
overflow_mul-view c = omega (arith, places_fit c.args.ledger c.args.ranks.now c.usable_counts-blocks.result c.usable_counts-blocks.ensures c.loop-j.j _ c.count_at.ensures)

pub bounds-view-at : goal.bounds-view-at
bounds-view-at c = omega (arith, c.loop-j.invariant.1.size)

pub overflow_step-j : goal.overflow_step-j
overflow_step-j c = omega arith

pub loop-j-smaller : goal.loop-j-smaller
loop-j-smaller c = omega arith

pub loop-j-preserved : goal.loop-j-preserved
loop-j-preserved c = (omega arith, filled_more 16 _ _ _ _ c.loop-j-test.true (ap (λ (n : ℕ). n * 32) c.count_at.ensures) c.loop-j.invariant.1)

pub returns : goal.returns
returns c = view_done c.args.ledger c.args.ranks.now c.usable_counts-blocks.result c.usable_counts-blocks.ensures c.loop-j.view _ (c.well_formed.0.1.1.1.0.1.0.1) c.loop-j-test.false c.loop-j.invariant.1
