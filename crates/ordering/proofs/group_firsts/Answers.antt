use Rattle.ordering.proofs.Cases.{four}
use Rattle.ordering.proofs.group_firsts.Goals as goal

pub returns : goal.returns
returns c =
    four _ _ _ _ _ c.first_in_group-a.ensures c.first_in_group-b.ensures c.first_in_group-c.ensures
    c.first_in_group-d.ensures
