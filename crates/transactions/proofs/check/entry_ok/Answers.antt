use borrow.Author.Rules.{rules}
use borrow.Author.Tests.{le-ltb, lt-ltb}
use Rattle.sums.specs.Test.{pick}
use Rattle.transactions.specs.Check.{entry_ok}
use Rattle.transactions.proofs.check.entry_ok.Goals as goal

pub account_at-requires : goal.account_at-requires
account_at-requires c = search rules

pub amount_at-requires : goal.amount_at-requires
amount_at-requires c = search rules

pub returns-then-account_at-a : goal.returns-then-account_at-a
unfolding entry_ok pick
returns-then-account_at-a c = simp (← c.amount_at.ensures, ← c.account_at.ensures, lt-ltb _ _ c.if-account_at-a.true)

pub returns-else-account_at-a : goal.returns-else-account_at-a
unfolding entry_ok pick
returns-else-account_at-a c = simp (← c.account_at.ensures, le-ltb _ _ c.if-account_at-a.false)
