use mathlib.Core.Path.{◌∙◌, ap}
use native.Mathlib.Omega.{arith}
use lib.ListN.{length}
use Rattle.rugxeni.proofs.NumberLaws.{kept-numbers}
use Rattle.settlement.proofs.CountCells.{front_turn}
use Rattle.sums.proofs.LoopLaws.{written_none, written_done}
use Rattle.sums.proofs.SeqLaws.{length-written}
use Rattle.rugxeni.proofs.numbers.write_ledger.Goals as goal

pub loop-i-init : goal.loop-i-init
loop-i-init c = (omega arith, written_none _ _ _)

pub overflow_cast-i : goal.overflow_cast-i
overflow_cast-i c = omega arith

pub overflow_step-i : goal.overflow_step-i
overflow_step-i c = omega arith

pub loop-i-smaller : goal.loop-i-smaller
loop-i-smaller c = omega arith

pub loop-i-preserved : goal.loop-i-preserved
loop-i-preserved c = (omega arith, c.put.ensures ∙ front_turn _ _ _ _ _ c.loop-i.invariant.1 c.number_of.ensures)

pub shape_of-numbers : goal.shape_of-numbers
shape_of-numbers c = ap length c.loop-i.invariant.1 ∙ length-written _ _ _ _

pub returns : goal.returns
returns c = kept-numbers c.args.ledger _ _ (c.well_formed.1.0.1.1.1.0.1.0.1) (written_done _ _ _ _ _ _ c.loop-i.invariant.0 c.loop-i-test.false c.loop-i.invariant.1)
