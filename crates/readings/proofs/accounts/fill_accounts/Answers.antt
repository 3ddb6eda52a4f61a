use mathlib.Core.Path.{◌∙◌, ap}
use native.Mathlib.Omega.{arith}
use lib.ListN.{length}
use Rattle.sums.proofs.LoopLaws.{written_done, written_none}
use Rattle.settlement.proofs.CountCells.{front_turn}
use Rattle.sums.proofs.SeqLaws.{length-written}
use Rattle.readings.proofs.accounts.fill_accounts.Goals as goal

pub loop-k-init : goal.loop-k-init
loop-k-init c = (omega arith, omega arith, written_none _ _ _, written_none _ _ _)

pub bounds-free-at : goal.bounds-free-at
bounds-free-at c = omega (arith, ap length c.loop-k.invariant.2 ∙ length-written _ _ _ _)

pub bounds-held-at : goal.bounds-held-at
bounds-held-at c = omega (arith, ap length c.loop-k.invariant.3 ∙ length-written _ _ _ _)

pub overflow_step-k : goal.overflow_step-k
overflow_step-k c = omega arith

pub loop-k-smaller : goal.loop-k-smaller
loop-k-smaller c = omega arith

pub loop-k-preserved : goal.loop-k-preserved
loop-k-preserved c = (omega arith, c.loop-k.invariant.1, front_turn _ _ _ _ _ c.loop-k.invariant.2 c.free_of.ensures, front_turn _ _ _ _ _ c.loop-k.invariant.3 c.held_of.ensures)

pub shape_of-free : goal.shape_of-free
shape_of-free c = ap length c.loop-k.invariant.2 ∙ length-written _ _ _ _

pub shape_of-held : goal.shape_of-held
shape_of-held c = ap length c.loop-k.invariant.3 ∙ length-written _ _ _ _

pub returns : goal.returns
returns c = (written_done _ _ _ _ _ _ (omega arith) (omega arith) c.loop-k.invariant.2, written_done _ _ _ _ _ _ (omega arith) (omega arith) c.loop-k.invariant.3)
