use borrow.Author.Tests.{le-leb, lt-leb}
use Rattle.sums.specs.Test.{pick}
use Rattle.transactions.specs.Check.{operation_ok}
use Rattle.transactions.proofs.check.operation_ok.Goals as goal

pub returns-then-byte_at-le4 : goal.returns-then-byte_at-le4
unfolding operation_ok pick
returns-then-byte_at-le4 c = simp (← c.byte_at-then-byte_at-le4.ensures, ← c.byte_at.ensures, le-leb _ _ c.if-byte_at-le4.true)

pub returns-else-byte_at-le4 : goal.returns-else-byte_at-le4
unfolding operation_ok pick
returns-else-byte_at-le4 c = simp (← c.byte_at.ensures, lt-leb _ _ c.if-byte_at-le4.false)
