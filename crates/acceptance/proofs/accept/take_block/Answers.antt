use mathlib.Core.Path.{◌∙◌, ap}
use Prim.Native.Nat.{ℕ}
use native.Mathlib.Omega.{arith}
use lib.ListN.{length, length-set}
use Rattle.acceptance.proofs.AcceptLaws.{take-ready, take_done}
use Rattle.state.specs.State.{kept}
use Rattle.settlement.specs.Tables.{buffers}
use Rattle.acceptance.proofs.accept.take_block.Goals as goal

pub judge_block-requires : goal.judge_block-requires
judge_block-requires c = take-ready c.args.ledger (kept c.args.sheet.now c.args.ranks.now c.args.cuts.now c.args.cites.now c.args.good.now)
    (buffers c.args.counts.now c.args.table.now c.args.order.now) c.args.block c.args.list c.requires c.count_at-h.result
    (c.count_at-h.ensures ∙ ap (λ (f : ℕ → ℕ). f c.args.block.instance) c.usable_counts-heights.ensures) c.sizes.result c.sizes.ensures _ _ _ c.store_block.ensures

pub overflow_add-h : goal.overflow_add-h
overflow_add-h c = omega (
  arith,
  (take-ready c.args.ledger (kept c.args.sheet.now c.args.ranks.now c.args.cuts.now c.args.cites.now c.args.good.now)
      (buffers c.args.counts.now c.args.table.now c.args.order.now) c.args.block c.args.list c.requires c.count_at-h.result
      (c.count_at-h.ensures ∙ ap (λ (f : ℕ → ℕ). f c.args.block.instance) c.usable_counts-heights.ensures) c.sizes.result c.sizes.ensures _ _ _ c.store_block.ensures).0,
)

pub shape_of-ranks : goal.shape_of-ranks
shape_of-ranks c = ap length c.store_block.ensures.ranked ∙ length-set c.args.ranks.now _ _

pub returns : goal.returns
returns c = take_done c.args.ledger (kept c.args.sheet.now c.args.ranks.now c.args.cuts.now c.args.cites.now c.args.good.now)
    (buffers c.args.counts.now c.args.table.now c.args.order.now) c.args.block c.args.list c.requires c.count_at-h.result
    (c.count_at-h.ensures ∙ ap (λ (f : ℕ → ℕ). f c.args.block.instance) c.usable_counts-heights.ensures) c.sizes.result c.sizes.ensures _ _ _ c.store_block.ensures _
    c.judge_block.ensures.0 _ c.judge_block.ensures.1 _ c.raised.ensures
