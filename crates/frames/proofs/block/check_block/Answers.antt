use mathlib.Core.Path.{sym}
use native.Mathlib.Omega.{arith}
use Rattle.frames.proofs.BlockLaws.{block-fine, block-length, block-many, block-short}
use Rattle.frames.proofs.block.check_block.Goals as goal

pub returns-then-body-lt10 : goal.returns-then-body-lt10
returns-then-body-lt10 c = sym (block-short c.args.body.now c.args.at c.args.m (omega arith))

pub returns-then-body-m : goal.returns-then-body-m
returns-then-body-m c = sym (block-length c.args.body.now c.args.at c.args.m (omega arith) (omega arith))

pub returns-then-count-gt32 : goal.returns-then-count-gt32
returns-then-count-gt32 c = sym (block-many c.args.body.now c.args.at c.args.m (omega arith) (omega arith) (omega arith))

pub returns : goal.returns
returns c = sym (block-fine c.args.body.now c.args.at c.args.m (omega arith) (omega arith) (omega arith))
