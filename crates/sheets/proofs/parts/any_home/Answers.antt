use mathlib.Core.Path.{◌≡◌, sym}
use native.Mathlib.Omega.{arith}
use Rattle.sheets.proofs.PartCells.{at_home, elsewhere}
use Rattle.sums.proofs.LoopLaws.{any_to_hit, any_to-more, any_to-none}
use Rattle.sheets.proofs.parts.any_home.Goals as goal

pub loop-i-init : goal.loop-i-init
loop-i-init c = (omega arith, any_to-none _)

pub returns-then-home_of-j : goal.returns-then-home_of-j
returns-then-home_of-j c = sym (any_to_hit _ _ _ c.loop-i-test.true (at_home _ _ _ _ _ _ c.account_at.ensures c.home_of.ensures c.if-home_of-j.true))

pub overflow_step-i : goal.overflow_step-i
overflow_step-i c = omega arith

pub loop-i-smaller : goal.loop-i-smaller
loop-i-smaller c = omega arith

pub loop-i-preserved : goal.loop-i-preserved
loop-i-preserved c = (omega arith, any_to-more _ _ c.loop-i.invariant.1 (elsewhere _ _ _ _ _ _ c.account_at.ensures c.home_of.ensures c.if-home_of-j.false))

pub returns : goal.returns
returns c = let q : c.args.n ≡ c.loop-i.i = omega arith in sym (rw q c.loop-i.invariant.1)
