use mathlib.Core.Path.{refl, sym, ◌∙◌}
use Rattle.bench.proofs.Ready.{ready-ordered, ready-counts, ready-table, ready-order, ready-m, ready-g, timed_not, timed_so}
use Rattle.bench.proofs.bench_settle.Goals as goal

pub returns-then-not-is_ready : goal.returns-then-not-is_ready
returns-then-not-is_ready c = timed_not _ _ _ _ _ _ _ _ _ (sym c.is_ready.ensures ∙ c.if-not-is_ready.true) refl refl

pub settle-cells-requires : goal.settle-cells-requires
settle-cells-requires c = (ready-ordered _ _ _ _ _ _ (sym c.is_ready.ensures ∙ c.if-not-is_ready.false), ready-counts _ _ _ _ _ _ (sym c.is_ready.ensures ∙ c.if-not-is_ready.false), ready-table _ _ _ _ _ _ (sym c.is_ready.ensures ∙ c.if-not-is_ready.false), ready-order _ _ _ _ _ _ (sym c.is_ready.ensures ∙ c.if-not-is_ready.false), ready-m _ _ _ _ _ _ (sym c.is_ready.ensures ∙ c.if-not-is_ready.false), ready-g _ _ _ _ _ _ (sym c.is_ready.ensures ∙ c.if-not-is_ready.false))

pub returns : goal.returns
returns c = timed_so _ _ _ _ _ _ _ _ _ (sym c.is_ready.ensures ∙ c.if-not-is_ready.false) c.settle-cells.ensures.0 _ c.settle-cells.ensures.1 _ c.register.ensures refl
