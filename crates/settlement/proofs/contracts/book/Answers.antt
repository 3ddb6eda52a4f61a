use Rattle.settlement.proofs.BookCells.{counted_holds}
use Rattle.settlement.proofs.contracts.book.Goals as goal

pub settle_one-requires : goal.settle_one-requires
settle_one-requires c = (c.requires.0, c.requires.2)

pub returns : goal.returns
returns c = λ c₀ t₀ s k. c.settle_one.ensures c₀ t₀ _ (counted_holds _ c₀ t₀ s _ _ _ k _ _ c.requires.0 _ c.count_one.ensures c.requires.1)
