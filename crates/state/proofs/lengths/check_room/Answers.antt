use borrow.Author.Tests.{le-ltb, lt-ltb}
use mathlib.Core.Path.{sym}
use Rattle.plain.proofs.AnswerLaws.{refuse_false, refuse_true}
use Rattle.state.proofs.lengths.check_room.Goals as goal

pub returns-then-lent-least : goal.returns-then-lent-least
returns-then-lent-least c = sym (refuse_true _ 16 _ (lt-ltb _ _ c.if-lent-least.true))

pub returns : goal.returns
returns c = sym (refuse_false _ 16 _ (le-ltb _ _ c.if-lent-least.false))
