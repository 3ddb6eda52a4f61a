use Rattle.std.proofs.Common.{Err, rules}
use mathlib.Core.List.{[]}
use mathlib.Core.Path.{◌≡◌}
use Rattle.readings.proofs.CallLaws.{answer-registers, registers-passed, registers-told}
use Rattle.readings.proofs.ReadLaws.{reads-refused}
use Rattle.readings.proofs.RoomLaws.{both_first, both_pass, both_said, both_second, unmade, unmade_said}
use Rattle.settlement.specs.Tables.{buffers}
use Rattle.state.specs.State.{kept}
use Rattle.readings.proofs.registers.registers.Goals as goal

pub settle_full-values-requires : goal.settle_full-values-requires
settle_full-values-requires c =
    let s = c.args in
    let K = kept s.sheet.now s.ranks.now [] s.cites.now s.good.now in
    let W = buffers s.counts.now s.table.now s.order.now in
    (registers-passed s.ledger K W c.sizes-z.result c.sizes-z.ensures c.check_buffers.result _ c.check_buffers.ensures s.registers.now
    (both_said c.check_buffers.result c.check_room.result c.check_room.ensures) (both_pass c.in_ok-check_buffers.was c.in_ok-check_room.was)).0

pub fill_registers-requires : goal.fill_registers-requires
fill_registers-requires c =
    let s = c.args in
    let K = kept s.sheet.now s.ranks.now [] s.cites.now s.good.now in
    let W = buffers s.counts.now s.table.now s.order.now in
    let p = registers-passed s.ledger K W c.sizes-z.result c.sizes-z.ensures c.check_buffers.result _ c.check_buffers.ensures s.registers.now
    (both_said c.check_buffers.result c.check_room.result c.check_room.ensures) (both_pass c.in_ok-check_buffers.was c.in_ok-check_room.was) in
    (p.1, p.2)

pub returns-in_err-check_buffers : goal.returns-in_err-check_buffers
returns-in_err-check_buffers c =
    let s = c.args in
    let K = kept s.sheet.now s.ranks.now [] s.cites.now s.good.now in
    let W = buffers s.counts.now s.table.now s.order.now in
    let e : c.from_residual.result ≡ Err c.in_err-check_buffers.field-0.0 = search rules in
    rw e (reads-refused _ _ _ _ _ _ _ (both_first _ c.in_err-check_buffers.was)
    (answer-registers s.ledger K W c.sizes-z.result c.sizes-z.ensures c.check_buffers.result _ c.check_buffers.ensures s.registers.now
    (both_said c.check_buffers.result (unmade c.sizes-z.result.g _) (unmade_said c.sizes-z.result.g _))))

pub returns-in_err-check_room : goal.returns-in_err-check_room
returns-in_err-check_room c =
    let s = c.args in
    let K = kept s.sheet.now s.ranks.now [] s.cites.now s.good.now in
    let W = buffers s.counts.now s.table.now s.order.now in
    let e : c.from_residual-in_err-check_room.result ≡ Err c.in_err-check_room.field-0.0 = search rules in
    rw e (reads-refused _ _ _ _ _ _ _ (both_second c.in_ok-check_buffers.was c.in_err-check_room.was)
    (answer-registers s.ledger K W c.sizes-z.result c.sizes-z.ensures c.check_buffers.result _ c.check_buffers.ensures s.registers.now
    (both_said c.check_buffers.result c.check_room.result c.check_room.ensures)))

pub returns : goal.returns
returns c =
    let s = c.args in
    let K = kept s.sheet.now s.ranks.now [] s.cites.now s.good.now in
    let W = buffers s.counts.now s.table.now s.order.now in
    registers-told s.ledger K W c.sizes-z.result c.sizes-z.ensures c.check_buffers.result _ c.check_buffers.ensures s.registers.now
    (both_said c.check_buffers.result c.check_room.result c.check_room.ensures) (both_pass c.in_ok-check_buffers.was c.in_ok-check_room.was)
    c.settle_full-values.result _ c.settle_full-values.ensures c.settle_full-values.type_inv.1.0.1 _ c.fill_registers.ensures
