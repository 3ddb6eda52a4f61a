use mathlib.Core.Path.{◌∙◌, sym}
use native.Mathlib.Omega.{arith}
use Rattle.frames.proofs.StepLaws.{judged-balances, judged-block, judged-header, judged-transaction, judged-unknown}
use Rattle.frames.proofs.step.judge.Goals as goal

pub returns-in-1 : goal.returns-in-1
returns-in-1 c = c.check_header.ensures ∙ sym (judged-header c.args.s c.args.kind c.args.b.now c.args.at (omega arith))

pub returns-in-2 : goal.returns-in-2
returns-in-2 c = c.check_balances.ensures ∙ sym (judged-balances c.args.s c.args.kind c.args.b.now c.args.at (omega arith) (omega arith))

pub returns-in-3 : goal.returns-in-3
returns-in-3 c = c.check_transaction.ensures ∙ sym (judged-transaction c.args.s c.args.kind c.args.b.now c.args.at (omega arith) (omega arith) (omega arith))

pub returns-in-4 : goal.returns-in-4
returns-in-4 c = c.check_block.ensures ∙ sym (judged-block c.args.s c.args.kind c.args.b.now c.args.at (omega arith) (omega arith) (omega arith) (omega arith))

pub returns-in_default : goal.returns-in_default
returns-in_default c = sym (judged-unknown c.args.s c.args.kind c.args.b.now c.args.at (omega arith) (omega arith) (omega arith) (omega arith))
