use Rattle.readings.proofs.RoomLaws.{settling_no, settling_yes}
use Rattle.state.specs.State.{kept}
use mathlib.Core.List.{[]}
use Rattle.settlement.specs.Tables.{buffers}
use Rattle.readings.proofs.room.check_buffers.Goals as goal

pub returns-then-not-is_complete : goal.returns-then-not-is_complete
returns-then-not-is_complete c = settling_no c.args.ledger (kept c.args.sheet.now c.args.ranks.now [] c.args.cites.now c.args.good.now) (buffers c.args.counts.now c.args.table.now c.args.order.now) _ c.is_complete.ensures (c.if-not-is_complete.true)

pub returns : goal.returns
returns c = settling_yes c.args.ledger (kept c.args.sheet.now c.args.ranks.now [] c.args.cites.now c.args.good.now) (buffers c.args.counts.now c.args.table.now c.args.order.now) _ c.is_complete.ensures (c.if-not-is_complete.false) c.least_lengths-least.result c.least_lengths-least.ensures _ c.check_lengths.ensures
