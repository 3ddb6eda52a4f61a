use native.Mathlib.Omega.{arith}
use Rattle.admission.proofs.BlockLaws.{values_many, values-set, values-fine}
use Rattle.admission.proofs.block.check_values.Goals as goal

pub returns-then-count-gt32 : goal.returns-then-count-gt32
returns-then-count-gt32 c = values_many _ c.args.cut _ (omega arith)

pub returns-then-unused_set : goal.returns-then-unused_set
returns-then-unused_set c = values-set _ c.args.cut _ (omega arith) c.unused_set.ensures c.if-unused_set.true

pub returns : goal.returns
returns c = values-fine _ c.args.cut _ (omega arith) c.unused_set.ensures c.if-unused_set.false
