use mathlib.Core.Path.{◌∙◌, sym}
use native.Mathlib.Omega.{arith}
use Rattle.transactions.proofs.CheckLaws.{check-fine, check-length, check-range, check_short, check-sums, check-twice}
use Rattle.transactions.proofs.check.check_transaction.Goals as goal

pub returns-then-body-lt4 : goal.returns-then-body-lt4
returns-then-body-lt4 c = sym (check_short c.args.body.now c.args.at c.args.a c.args.g c.if-body-lt4.true)

pub returns-then-body-lists : goal.returns-then-body-lists
returns-then-body-lists c = sym (check-length c.args.body.now c.args.at c.args.a c.args.g (omega arith) (omega arith))

pub returns-then-not-in_range : goal.returns-then-not-in_range
returns-then-not-in_range c = sym (check-range c.args.body.now c.args.at c.args.a c.args.g (omega arith) (omega arith) (sym c.in_range.ensures ∙ c.if-not-in_range.true))

pub returns-then-not-accounts_once : goal.returns-then-not-accounts_once
returns-then-not-accounts_once c = sym (check-twice c.args.body.now c.args.at c.args.a c.args.g (omega arith) (omega arith) (sym c.in_range.ensures ∙ c.if-not-in_range.false) (sym c.accounts_once.ensures ∙ c.if-not-accounts_once.true))

pub returns-then-not-sums_agree : goal.returns-then-not-sums_agree
returns-then-not-sums_agree c = sym (check-sums c.args.body.now c.args.at c.args.a c.args.g (omega arith) (omega arith) (sym c.in_range.ensures ∙ c.if-not-in_range.false) (sym c.accounts_once.ensures ∙ c.if-not-accounts_once.false) (sym c.sums_agree.ensures ∙ c.if-not-sums_agree.true))

pub returns : goal.returns
returns c = sym (check-fine c.args.body.now c.args.at c.args.a c.args.g (omega arith) (omega arith) (sym c.in_range.ensures ∙ c.if-not-in_range.false) (sym c.accounts_once.ensures ∙ c.if-not-accounts_once.false) (sym c.sums_agree.ensures ∙ c.if-not-sums_agree.false))
