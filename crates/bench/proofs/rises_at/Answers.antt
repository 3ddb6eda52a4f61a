use native.Mathlib.Omega.{arith}
use Rattle.bench.proofs.Ready.{rises_last, rises_next}
use Rattle.bench.proofs.rises_at.Goals as goal

pub returns-then-b-n : goal.returns-then-b-n
returns-then-b-n c = rises_last _ _ _ _ (omega arith)

pub returns-then-b-n-eq1 : goal.returns-then-b-n-eq1
returns-then-b-n-eq1 c = rises_last _ _ _ _ (omega arith)

pub returns : goal.returns
returns c = rises_next _ _ _ _ (omega (arith, c.if-b-n.false, c.if-b-n-eq1.false)) _ _ c.rank_at-low.ensures c.rank_at-high.ensures
