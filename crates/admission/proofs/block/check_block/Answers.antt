use native.Mathlib.Omega.{arith}
use Rattle.admission.proofs.BlockLaws.{block_8, block-17, block-9, block-10, block-lists}
use Rattle.admission.proofs.block.check_block.Goals as goal

pub returns-then-z-i : goal.returns-then-z-i
returns-then-z-i c = block_8 c.args.sheet.now c.args.z c.args.heights c.args.ranks.now c.args.cuts.now c.args.cites.now c.args.block c.args.list (omega arith)

pub returns-then-h-ge128 : goal.returns-then-h-ge128
returns-then-h-ge128 c = block-17 c.args.sheet.now c.args.z c.args.heights c.args.ranks.now c.args.cuts.now c.args.cites.now c.args.block c.args.list (omega arith) c.count_at-h.ensures (omega arith)

pub returns-then-block-h : goal.returns-then-block-h
returns-then-block-h c = block-9 c.args.sheet.now c.args.z c.args.heights c.args.ranks.now c.args.cuts.now c.args.cites.now c.args.block c.args.list (omega arith) c.count_at-h.ensures (omega arith) c.if-block-h.true

pub returns-then-block-last : goal.returns-then-block-last
returns-then-block-last c = block-10 c.args.sheet.now c.args.z c.args.heights c.args.ranks.now c.args.cuts.now c.args.cites.now c.args.block c.args.list (omega arith) c.count_at-h.ensures (omega arith) c.if-block-h.false c.last_rank-last.ensures (omega arith)

pub returns : goal.returns
returns c = block-lists c.args.sheet.now c.args.z c.args.heights c.args.ranks.now c.args.cuts.now c.args.cites.now c.args.block c.args.list (omega arith) c.count_at-h.ensures (omega arith) c.if-block-h.false c.last_rank-last.ensures (omega arith) c.check_lists.ensures
