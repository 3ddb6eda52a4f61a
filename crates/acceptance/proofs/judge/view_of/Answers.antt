use mathlib.Core.Path.{refl}
use native.Mathlib.Omega.{arith}
use Rattle.acceptance.proofs.Views.{view_past}
use Rattle.acceptance.specs.Judging.{view_by}
use Rattle.ordering.specs.Table.{count_in}
use Rattle.sums.proofs.FilledLaws.{filled_end, filled_more, filled_none}
use Rattle.acceptance.proofs.judge.view_of.Goals as goal

pub loop-j-init : goal.loop-j-init
loop-j-init c = (omega arith, filled_none 16 _ _ refl)

pub overflow_cast-at : goal.overflow_cast-at
overflow_cast-at c = omega arith

pub places_of-requires : goal.places_of-requires
places_of-requires c = c.requires.1 _

pub offset_bounds-view-at : goal.offset_bounds-view-at
offset_bounds-view-at c = omega arith

pub bounds-view-at : goal.bounds-view-at
bounds-view-at c = omega (arith, c.loop-j.invariant.1.size)

pub overflow_step-j : goal.overflow_step-j
overflow_step-j c = omega arith

pub loop-j-smaller : goal.loop-j-smaller
loop-j-smaller c = omega arith

pub loop-j-preserved : goal.loop-j-preserved
loop-j-preserved c = (omega arith, filled_more 16 _ _ _ _ c.loop-j-test.true c.places_of.ensures c.loop-j.invariant.1)

pub returns : goal.returns
returns c =
    let a = c.args in
    filled_end 16 (view_by (count_in a.cut) a.i a.p) c.loop-j.view _ c.loop-j-test.false (view_past a.cut c.well_formed.0.1.0.1 _ _ c.requires.0) c.loop-j.invariant.1
