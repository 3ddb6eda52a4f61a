use Rattle.ordering.proofs.count_at.Goals as goal

pub returns : goal.returns
returns c = c.count_in.ensures
