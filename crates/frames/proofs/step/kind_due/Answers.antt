use mathlib.Core.Path.{◌∙◌, sym}
use native.Mathlib.Omega.{arith}
use Rattle.frames.proofs.StepLaws.{due-balances, due-block, due_header, due-none, due-over, due-transaction}
use Rattle.frames.proofs.step.kind_due.Goals as goal

pub returns-then-s-eq0 : goal.returns-then-s-eq0
returns-then-s-eq0 c = sym (due_header c.args.s (omega arith))

pub returns-then-not-header_ok : goal.returns-then-not-header_ok
returns-then-not-header_ok c = sym (due-none c.args.s (omega arith) (sym c.header_ok.ensures ∙ c.if-not-header_ok.true))

pub returns-then-s-eq1 : goal.returns-then-s-eq1
returns-then-s-eq1 c = sym (due-balances c.args.s (omega arith) (sym c.header_ok.ensures ∙ c.if-not-header_ok.false) (omega arith))

pub returns-then-s : goal.returns-then-s
returns-then-s c = sym (due-transaction c.args.s (omega arith) (sym c.header_ok.ensures ∙ c.if-not-header_ok.false) (omega arith) (omega arith))

pub returns-then-s-2 : goal.returns-then-s-2
returns-then-s-2 c = sym (due-block c.args.s (omega arith) (sym c.header_ok.ensures ∙ c.if-not-header_ok.false) (omega arith) (omega arith) (omega arith))

pub returns : goal.returns
returns c = sym (due-over c.args.s (omega arith) (sym c.header_ok.ensures ∙ c.if-not-header_ok.false) (omega arith) (omega arith) (omega arith))
