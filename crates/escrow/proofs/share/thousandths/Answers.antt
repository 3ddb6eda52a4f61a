use mathlib.Core.Path.{sym}
use native.Mathlib.Omega.{arith}
use Rattle.std.proofs.lemmas.Bool.Decides.{nat_tests}
use Rattle.escrow.proofs.ShareLaws.{figure-below, rest_below, thousandths_down, thousandths-none, thousandths_tie, thousandths_up}
use Rattle.escrow.proofs.share.thousandths.Goals as goal

pub returns-then-t-eq0 : goal.returns-then-t-eq0
returns-then-t-eq0 c = sym (thousandths-none _ _ c.if-t-eq0.true)

pub overflow_mul-twice : goal.overflow_mul-twice
overflow_mul-twice c = omega (arith, rest_below c.args.s c.args.t c.if-t-eq0.false)

pub returns-in-Less : goal.returns-in-Less
returns-in-Less c = thousandths_down _ _ c.if-t-eq0.false (grind (arith, nat_tests))

pub overflow_add-result : goal.overflow_add-result
overflow_add-result c = omega (arith, figure-below c.args.s c.args.t c.if-t-eq0.false)

pub returns-in-Greater : goal.returns-in-Greater
returns-in-Greater c = thousandths_up _ _ c.if-t-eq0.false (grind (arith, nat_tests))

pub returns-in-Equal : goal.returns-in-Equal
returns-in-Equal c = thousandths_tie _ _ c.if-t-eq0.false (grind (arith, nat_tests)) (grind (arith, nat_tests))
