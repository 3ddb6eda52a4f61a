use Rattle.state.specs.State.{kept}
use Rattle.settlement.specs.Tables.{buffers}
use mathlib.Core.List.{[]}
use Rattle.readings.proofs.SettledLaws.{settle_done, settle_ready}
use Rattle.readings.proofs.settled.settle_full.Goals as goal

pub settle-requires : goal.settle-requires
settle-requires c = settle_ready c.args.ledger (kept c.args.sheet.now c.args.ranks.now [] c.args.cites.now c.args.good.now) (buffers c.args.counts.now c.args.table.now c.args.order.now) c.sizes-z.result c.sizes-z.ensures c.full_view-view.result c.full_view-view.ensures c.requires

pub returns : goal.returns
returns c = settle_done c.args.ledger (kept c.args.sheet.now c.args.ranks.now [] c.args.cites.now c.args.good.now) (buffers c.args.counts.now c.args.table.now c.args.order.now) c.sizes-z.result c.sizes-z.ensures c.full_view-view.result c.full_view-view.ensures c.requires _ _ c.settle.ensures
