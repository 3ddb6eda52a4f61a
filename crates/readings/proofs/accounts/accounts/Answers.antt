use Rattle.std.proofs.Common.{Err, rules}
use mathlib.Core.List.{[]}
use mathlib.Core.Path.{◌≡◌}
use Rattle.readings.proofs.CallLaws.{accounts-passed, accounts-told, answer-accounts}
use Rattle.readings.proofs.ReadLaws.{reads-refused}
use Rattle.readings.proofs.RoomLaws.{both_first, both_pass, both_said, both_second, unmade, unmade_said}
use Rattle.settlement.specs.Tables.{buffers}
use Rattle.state.specs.State.{kept}
use Rattle.readings.proofs.accounts.accounts.Goals as goal

pub settle_full-registers-requires : goal.settle_full-registers-requires
settle_full-registers-requires c =
    let s = c.args in
    let K = kept s.sheet.now s.ranks.now [] s.cites.now s.good.now in
    let W = buffers s.counts.now s.table.now s.order.now in
    (accounts-passed s.ledger K W c.sizes-z.result c.sizes-z.ensures c.check_buffers.result _ _ c.check_buffers.ensures s.free.now s.held.now
    (both_said c.check_buffers.result c.check_room.result c.check_room.ensures) (both_said _ c.check_room-2.result c.check_room-2.ensures)
    (both_pass (both_pass c.in_ok-check_buffers.was c.in_ok-check_room.was) c.in_ok-check_room-2.was)).0

pub fill_accounts-requires : goal.fill_accounts-requires
fill_accounts-requires c =
    let s = c.args in
    let K = kept s.sheet.now s.ranks.now [] s.cites.now s.good.now in
    let W = buffers s.counts.now s.table.now s.order.now in
    let p = accounts-passed s.ledger K W c.sizes-z.result c.sizes-z.ensures c.check_buffers.result _ _ c.check_buffers.ensures s.free.now s.held.now
    (both_said c.check_buffers.result c.check_room.result c.check_room.ensures) (both_said _ c.check_room-2.result c.check_room-2.ensures)
    (both_pass (both_pass c.in_ok-check_buffers.was c.in_ok-check_room.was) c.in_ok-check_room-2.was) in
    (p.1, p.2)

pub returns-in_err-check_buffers : goal.returns-in_err-check_buffers
returns-in_err-check_buffers c =
    let s = c.args in
    let K = kept s.sheet.now s.ranks.now [] s.cites.now s.good.now in
    let W = buffers s.counts.now s.table.now s.order.now in
    let e : c.from_residual.result ≡ Err c.in_err-check_buffers.field-0.0 = search rules in
    let a = c.sizes-z.result.a in
    rw e (reads-refused _ _ _ _ _ _ _ (both_first _ (both_first _ c.in_err-check_buffers.was))
    (answer-accounts s.ledger K W c.sizes-z.result c.sizes-z.ensures c.check_buffers.result _ _ c.check_buffers.ensures s.free.now s.held.now
    (both_said c.check_buffers.result (unmade a _) (unmade_said a _)) (both_said _ (unmade a _) (unmade_said a _))))

pub returns-in_err-check_room : goal.returns-in_err-check_room
returns-in_err-check_room c =
    let s = c.args in
    let K = kept s.sheet.now s.ranks.now [] s.cites.now s.good.now in
    let W = buffers s.counts.now s.table.now s.order.now in
    let e : c.from_residual-in_err-check_room.result ≡ Err c.in_err-check_room.field-0.0 = search rules in
    rw e (reads-refused _ _ _ _ _ _ _ (both_first _ (both_second c.in_ok-check_buffers.was c.in_err-check_room.was))
    (answer-accounts s.ledger K W c.sizes-z.result c.sizes-z.ensures c.check_buffers.result _ _ c.check_buffers.ensures s.free.now s.held.now
    (both_said c.check_buffers.result c.check_room.result c.check_room.ensures) (both_said _ (unmade c.sizes-z.result.a _) (unmade_said c.sizes-z.result.a _))))

pub returns-in_err-check_room-2 : goal.returns-in_err-check_room-2
returns-in_err-check_room-2 c =
    let s = c.args in
    let K = kept s.sheet.now s.ranks.now [] s.cites.now s.good.now in
    let W = buffers s.counts.now s.table.now s.order.now in
    let e : c.from_residual-in_err-check_room-2.result ≡ Err c.in_err-check_room-2.field-0.0 = search rules in
    rw e (reads-refused _ _ _ _ _ _ _ (both_second (both_pass c.in_ok-check_buffers.was c.in_ok-check_room.was) c.in_err-check_room-2.was)
    (answer-accounts s.ledger K W c.sizes-z.result c.sizes-z.ensures c.check_buffers.result _ _ c.check_buffers.ensures s.free.now s.held.now
    (both_said c.check_buffers.result c.check_room.result c.check_room.ensures) (both_said _ c.check_room-2.result c.check_room-2.ensures)))

pub returns : goal.returns
returns c =
    let s = c.args in
    let K = kept s.sheet.now s.ranks.now [] s.cites.now s.good.now in
    let W = buffers s.counts.now s.table.now s.order.now in
    accounts-told s.ledger K W c.sizes-z.result c.sizes-z.ensures c.check_buffers.result _ _ c.check_buffers.ensures s.free.now s.held.now
    (both_said c.check_buffers.result c.check_room.result c.check_room.ensures) (both_said _ c.check_room-2.result c.check_room-2.ensures)
    (both_pass (both_pass c.in_ok-check_buffers.was c.in_ok-check_room.was) c.in_ok-check_room-2.was)
    c.settle_full-registers.result _ c.settle_full-registers.ensures c.full_view-view.result c.full_view-view.ensures _ _ c.fill_accounts.ensures
