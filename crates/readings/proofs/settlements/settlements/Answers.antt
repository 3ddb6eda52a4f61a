use Rattle.std.proofs.Common.{Err, rules}
use mathlib.Core.List.{[]}
use mathlib.Core.Path.{◌≡◌}
use Rattle.readings.proofs.CallLaws.{answer-settlements, settlements-passed, settlements-told}
use Rattle.readings.proofs.ReadLaws.{reads-refused}
use Rattle.readings.proofs.RoomLaws.{both_first, both_pass, both_said, both_second, unmade, unmade_said}
use Rattle.settlement.specs.Tables.{buffers}
use Rattle.state.specs.State.{kept}
use Rattle.readings.proofs.settlements.settlements.Goals as goal

pub settle_full-registers-requires : goal.settle_full-registers-requires
settle_full-registers-requires c =
    let s = c.args in
    let K = kept s.sheet.now s.ranks.now [] s.cites.now s.good.now in
    let W = buffers s.counts.now s.table.now s.order.now in
    (settlements-passed s.ledger K W c.sizes-z.result c.sizes-z.ensures c.check_buffers.result _ c.check_buffers.ensures s.statuses.now
    (both_said c.check_buffers.result c.check_room.result c.check_room.ensures) (both_pass c.in_ok-check_buffers.was c.in_ok-check_room.was)).0

pub fill_statuses-requires : goal.fill_statuses-requires
fill_statuses-requires c =
    let s = c.args in
    let K = kept s.sheet.now s.ranks.now [] s.cites.now s.good.now in
    let W = buffers s.counts.now s.table.now s.order.now in
    (settlements-passed s.ledger K W c.sizes-z.result c.sizes-z.ensures c.check_buffers.result _ c.check_buffers.ensures s.statuses.now
    (both_said c.check_buffers.result c.check_room.result c.check_room.ensures) (both_pass c.in_ok-check_buffers.was c.in_ok-check_room.was)).1

pub returns-in_err-check_buffers : goal.returns-in_err-check_buffers
returns-in_err-check_buffers c =
    let s = c.args in
    let K = kept s.sheet.now s.ranks.now [] s.cites.now s.good.now in
    let W = buffers s.counts.now s.table.now s.order.now in
    let e : c.from_residual.result ≡ Err c.in_err-check_buffers.field-0.0 = search rules in
    rw e (reads-refused _ _ _ _ _ _ _ (both_first _ c.in_err-check_buffers.was)
    (answer-settlements s.ledger K W c.sizes-z.result c.sizes-z.ensures c.check_buffers.result _ c.check_buffers.ensures s.statuses.now
    (both_said c.check_buffers.result (unmade c.sizes-z.result.t _) (unmade_said c.sizes-z.result.t _))))

pub returns-in_err-check_room : goal.returns-in_err-check_room
returns-in_err-check_room c =
    let s = c.args in
    let K = kept s.sheet.now s.ranks.now [] s.cites.now s.good.now in
    let W = buffers s.counts.now s.table.now s.order.now in
    let e : c.from_residual-in_err-check_room.result ≡ Err c.in_err-check_room.field-0.0 = search rules in
    rw e (reads-refused _ _ _ _ _ _ _ (both_second c.in_ok-check_buffers.was c.in_err-check_room.was)
    (answer-settlements s.ledger K W c.sizes-z.result c.sizes-z.ensures c.check_buffers.result _ c.check_buffers.ensures s.statuses.now
    (both_said c.check_buffers.result c.check_room.result c.check_room.ensures)))

pub returns : goal.returns
returns c =
    let s = c.args in
    let K = kept s.sheet.now s.ranks.now [] s.cites.now s.good.now in
    let W = buffers s.counts.now s.table.now s.order.now in
    settlements-told s.ledger K W c.sizes-z.result c.sizes-z.ensures c.check_buffers.result _ c.check_buffers.ensures s.statuses.now
    (both_said c.check_buffers.result c.check_room.result c.check_room.ensures) (both_pass c.in_ok-check_buffers.was c.in_ok-check_room.was)
    c.settle_full-registers.result _ c.settle_full-registers.ensures _ c.fill_statuses.ensures
