use mathlib.Core.Path.{◌∙◌, ap}
use native.Mathlib.Omega.{arith}
use lib.ListN.{length}
use Rattle.sums.proofs.LoopLaws.{written_none, written_turn, written_done}
use Rattle.sums.proofs.SeqLaws.{length-written}
use Rattle.acceptance.proofs.store.put_cut.Goals as goal

pub loop-e-init : goal.loop-e-init
loop-e-init c = (omega arith, written_none _ _ _)

pub loop-e-preserved : goal.loop-e-preserved
loop-e-preserved c = (omega arith, c.put.ensures ∙ written_turn _ _ _ _ _ _ c.loop-e.invariant.1 c.count_at.ensures)

pub shape_of-cuts : goal.shape_of-cuts
shape_of-cuts c = ap length c.loop-e.invariant.1 ∙ length-written _ _ _ _

pub returns : goal.returns
returns c = written_done _ _ _ _ _ _ c.loop-e.invariant.0 c.loop-e-test.false c.loop-e.invariant.1
