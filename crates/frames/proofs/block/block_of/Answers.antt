use borrow.Author.Rules.{rules}
use Rattle.frames.specs.Block.{block_of}
use Rattle.frames.proofs.block.block_of.Goals as goal

pub u16_at-requires : goal.u16_at-requires
u16_at-requires c = search rules

pub u16_at-requires-2 : goal.u16_at-requires-2
u16_at-requires-2 c = search rules

pub u32_at-requires : goal.u32_at-requires
u32_at-requires c = search rules

pub cut_of-requires : goal.cut_of-requires
cut_of-requires c = search rules

pub returns : goal.returns
unfolding block_of
returns c = simp (c.cut_of.ensures, c.u32_at.ensures, c.u16_at-2.ensures, c.u16_at.ensures)
