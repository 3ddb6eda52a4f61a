use mathlib.Core.List.{[]}
use Rattle.settlement.proofs.BookCells.{log_end, log_start, log_turn}
use Rattle.settlement.specs.Cells.{rows_in}
use Rattle.settlement.proofs.contracts.run_log.Goals as goal

pub loop-b-init : goal.loop-b-init
loop-b-init c = λ c₀ t₀ s k. log_start _ c₀ t₀ _ _ _ _ _ (rows_in [] c.args.cites.now c.args.good.now) c.args.order.now k

pub loop-b-preserved : goal.loop-b-preserved
loop-b-preserved c = λ c₀ t₀ s k.
    log_turn _ c₀ t₀ _ _ _ _ _ (rows_in [] c.args.cites.now c.args.good.now) c.args.order.now c.loop-b.b-index c.loop-b-test.true
    (c.run_block-next.ensures c₀ t₀ _ (c.loop-b.invariant c₀ t₀ s k))

pub returns : goal.returns
returns c = λ c₀ t₀ s k.
    log_end _ c₀ t₀ _ _ _ _ _ (rows_in [] c.args.cites.now c.args.good.now) c.args.order.now _ c.loop-b-test.false (c.loop-b.invariant c₀ t₀ s k)
