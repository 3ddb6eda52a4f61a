use native.Mathlib.Omega.{arith}
use Rattle.bench.proofs.Ready.{not_m, not-g, not-counts, not_table, not-order, not_short, is-rest}
use Rattle.bench.proofs.is_ready.Goals as goal

pub returns-then-z-gt16 : goal.returns-then-z-gt16
returns-then-z-gt16 c = not_m _ _ _ _ _ _ c.if-z-gt16.true

pub returns-then-z-gt64 : goal.returns-then-z-gt64
returns-then-z-gt64 c = not-g _ _ _ _ _ _ (omega arith) c.if-z-gt64.true

pub returns-then-counts-t : goal.returns-then-counts-t
returns-then-counts-t c = not-counts _ _ _ _ _ _ (omega arith) (omega arith) (omega arith)

pub returns-then-table-t : goal.returns-then-table-t
returns-then-table-t c = not_table _ _ _ _ _ _ (omega arith) (omega arith) (omega arith) (omega arith)

pub returns-then-order-m : goal.returns-then-order-m
returns-then-order-m c = not-order _ _ _ _ _ _ (omega arith) (omega arith) (omega arith) (omega arith) (omega arith)

pub returns-then-b-gt128 : goal.returns-then-b-gt128
returns-then-b-gt128 c = not_short _ _ _ _ _ _ (omega arith) (omega arith) (omega arith) (omega arith) (omega arith) c.if-b-gt128.true

pub returns : goal.returns
returns c = is-rest _ _ _ _ _ _ (omega arith) (omega arith) (omega arith) (omega arith) (omega arith) (omega arith) _ c.all_rise.ensures
