use borrow.Author.Rules.{rules}
use Rattle.transactions.proofs.lists.credits.Goals as goal

pub byte_at-requires : goal.byte_at-requires
byte_at-requires c = search rules

pub overflow_cast-byte_at : goal.overflow_cast-byte_at
overflow_cast-byte_at c = search rules

pub overflow_mul-byte_at : goal.overflow_mul-byte_at
overflow_mul-byte_at c = search rules

pub overflow_add-byte_at : goal.overflow_add-byte_at
overflow_add-byte_at c = search rules

pub rest-requires : goal.rest-requires
rest-requires c = search rules

pub returns : goal.returns
returns c = simp (← c.byte_at.ensures) c.rest.ensures
