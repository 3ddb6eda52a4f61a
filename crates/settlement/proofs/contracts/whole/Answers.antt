use borrow.Author.Rules.{rules}
use Rattle.settlement.proofs.SettleCells.{whole_is}
use Rattle.settlement.proofs.contracts.whole.Goals as goal

pub returns : goal.returns
returns c = whole_is _ _ c.well_formed.0.1.0.1 c.map.ensures.items.long (λ i h. let called = (c.map.ensures.items.at i 0 0 h).2 in search rules)
