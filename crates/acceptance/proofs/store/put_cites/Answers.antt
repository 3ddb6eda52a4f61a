use mathlib.Core.Path.{◌∙◌, ap}
use native.Mathlib.Omega.{arith}
use lib.ListN.{length}
use Rattle.sums.proofs.LoopLaws.{written_none, written_turn, written_done}
use Rattle.sums.proofs.SeqLaws.{length-written}
use Rattle.acceptance.proofs.store.put_cites.Goals as goal

pub loop-q-init : goal.loop-q-init
loop-q-init c = (omega arith, written_none _ _ _)

pub loop-q-preserved : goal.loop-q-preserved
loop-q-preserved c = (omega arith, c.put.ensures ∙ written_turn _ _ _ _ _ _ c.loop-q.invariant.1 c.cite.ensures)

pub shape_of-cites : goal.shape_of-cites
shape_of-cites c = ap length c.loop-q.invariant.1 ∙ length-written _ _ _ _

pub returns : goal.returns
returns c = written_done _ _ _ _ _ _ c.loop-q.invariant.0 c.loop-q-test.false c.loop-q.invariant.1
