use Rattle.transactions.proofs.lists.operations.Goals as goal

pub returns : goal.returns
returns c = simp (← c.byte_at-2.ensures, ← c.byte_at.ensures) c.rest.ensures
