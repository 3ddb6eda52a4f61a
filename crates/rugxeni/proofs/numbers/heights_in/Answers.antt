use mathlib.Core.Path.{refl, ◌∙◌}
use native.Mathlib.Omega.{arith}
use lib.ListN.{length-set}
use Rattle.sums.proofs.LoopLaws.{filling_done, filling_more}
use Rattle.sums.specs.Seq.{tabulate}
use Rattle.rugxeni.specs.Numbers.{ledger_in}
use Rattle.rugxeni.proofs.numbers.heights_in.Goals as goal

pub loop-j-init : goal.loop-j-init
unfolding tabulate
loop-j-init c = (omega arith, refl, refl)

pub overflow_add-j : goal.overflow_add-j
overflow_add-j c = omega arith

pub bounds-heights-j : goal.bounds-heights-j
bounds-heights-j c = omega (arith, c.loop-j.invariant.1)

pub loop-j-smaller : goal.loop-j-smaller
loop-j-smaller c = omega arith

pub loop-j-preserved : goal.loop-j-preserved
loop-j-preserved c = (omega arith, length-set c.loop-j.heights c.loop-j.j c.number_at.result ∙ c.loop-j.invariant.1, filling_more c.loop-j.heights c.loop-j.j c.number_at.result _ (omega arith) c.loop-j.invariant.2 c.number_at.ensures)

pub returns : goal.returns
unfolding ledger_in
returns c = filling_done c.loop-j.heights 16 c.loop-j.j _ c.loop-j.invariant.1 (omega arith) (omega arith) c.loop-j.invariant.2
