use native.Mathlib.Omega.{arith}
use Rattle.ordering.proofs.Cases.{equal_pairs, higher_instance, higher_rank, lower_instance, lower_rank}
use Rattle.ordering.proofs.pair.compare.Goals as goal

pub returns-then-a-b : goal.returns-then-a-b
returns-then-a-b c = lower_rank _ _ (omega arith)

pub returns-then-b-a : goal.returns-then-b-a
returns-then-b-a c = higher_rank _ _ (omega arith)

pub returns-then-a-b-2 : goal.returns-then-a-b-2
returns-then-a-b-2 c = lower_instance _ _ (omega arith) (omega arith)

pub returns-then-b-a-2 : goal.returns-then-b-a-2
returns-then-b-a-2 c = higher_instance _ _ (omega arith) (omega arith)

pub returns : goal.returns
returns c = equal_pairs _ _ (omega arith) (omega arith)
