use native.Mathlib.Omega.{arith}
use Rattle.settlement.proofs.PayCells.{pay_open, pay-paid, pay-returned}
use Rattle.settlement.proofs.settle.payment_of.Goals as goal

pub returns-then-failed-ne0 : goal.returns-then-failed-ne0
returns-then-failed-ne0 c = pay-returned _ _ _ c.if-failed-ne0.true

pub returns-then-cited-parts : goal.returns-then-cited-parts
returns-then-cited-parts c = pay-paid _ _ _ (omega (arith, c.if-failed-ne0.false)) c.if-cited-parts.true

pub returns-else-cited-parts : goal.returns-else-cited-parts
returns-else-cited-parts c = pay_open _ _ _ (omega (arith, c.if-failed-ne0.false)) c.if-cited-parts.false
