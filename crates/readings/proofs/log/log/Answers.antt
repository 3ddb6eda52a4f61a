use Rattle.std.proofs.Common.{◌*◌, Err, rules}
use lib.ListN.{replicate}
use mathlib.Core.Path.{◌≡◌, refl}
use native.Mathlib.Omega.{arith}
use Rattle.readings.proofs.LogLaws.{answer-log, log-ready, log-short, log-told}
use Rattle.readings.proofs.ReadLaws.{reads-refused}
use Rattle.readings.proofs.RoomLaws.{both_first, both_pass, both_said, both_second, unmade, unmade_said}
use Rattle.readings.proofs.log.log.Goals as goal

pub fill_log-requires : goal.fill_log-requires
fill_log-requires c =
    let s = c.args in
    log-ready s.ledger s.ranks.now c.view_log-n.result c.view_log-n.ensures.0 s.instances.now s.numbers.now c.check_complete.result _ _ _ c.check_complete.ensures
    (both_said c.check_complete.result c.check_room.result c.check_room.ensures) (both_said _ c.check_room-2.result c.check_room-2.ensures) (both_said _ c.check_room-3.result c.check_room-3.ensures)
    (both_pass (both_pass (both_pass c.in_ok-check_complete.was c.in_ok-check_room.was) c.in_ok-check_room-2.was) c.in_ok-check_room-3.was) (replicate 2048 0) _ refl c.view_log-n.ensures.1

pub overflow_cast-result : goal.overflow_cast-result
overflow_cast-result c =
    let s = c.args in
    let short = log-short s.ledger s.ranks.now c.view_log-n.result c.view_log-n.ensures.0 s.instances.now s.numbers.now c.check_complete.result _ _ _ c.check_complete.ensures
    (both_said c.check_complete.result c.check_room.result c.check_room.ensures) (both_said _ c.check_room-2.result c.check_room-2.ensures) (both_said _ c.check_room-3.result c.check_room-3.ensures)
    (both_pass (both_pass (both_pass c.in_ok-check_complete.was c.in_ok-check_room.was) c.in_ok-check_room-2.was) c.in_ok-check_room-3.was) in
    omega (arith, short)

pub returns-in_err-check_complete : goal.returns-in_err-check_complete
returns-in_err-check_complete c =
    let s = c.args in
    let e : c.from_residual.result ≡ Err c.in_err-check_complete.field-0.0 = search rules in
    rw e (reads-refused _ _ _ _ _ _ _ (both_first _ (both_first _ (both_first _ c.in_err-check_complete.was)))
    (answer-log s.ledger s.ranks.now c.view_log-n.result c.view_log-n.ensures.0 s.instances.now s.numbers.now c.check_complete.result _ _ _ c.check_complete.ensures
    (both_said c.check_complete.result (unmade (128 * s.ledger.loading.m) _) (unmade_said (128 * s.ledger.loading.m) _)) (both_said _ (unmade c.view_log-n.result _) (unmade_said c.view_log-n.result _)) (both_said _ (unmade c.view_log-n.result _) (unmade_said c.view_log-n.result _))))

pub returns-in_err-check_room : goal.returns-in_err-check_room
returns-in_err-check_room c =
    let s = c.args in
    let e : c.from_residual-in_err-check_room.result ≡ Err c.in_err-check_room.field-0.0 = search rules in
    rw e (reads-refused _ _ _ _ _ _ _ (both_first _ (both_first _ (both_second c.in_ok-check_complete.was c.in_err-check_room.was)))
    (answer-log s.ledger s.ranks.now c.view_log-n.result c.view_log-n.ensures.0 s.instances.now s.numbers.now c.check_complete.result _ _ _ c.check_complete.ensures
    (both_said c.check_complete.result c.check_room.result c.check_room.ensures) (both_said _ (unmade c.view_log-n.result _) (unmade_said c.view_log-n.result _)) (both_said _ (unmade c.view_log-n.result _) (unmade_said c.view_log-n.result _))))

pub returns-in_err-check_room-2 : goal.returns-in_err-check_room-2
returns-in_err-check_room-2 c =
    let s = c.args in
    let e : c.from_residual-in_err-check_room-2.result ≡ Err c.in_err-check_room-2.field-0.0 = search rules in
    rw e (reads-refused _ _ _ _ _ _ _ (both_first _ (both_second (both_pass c.in_ok-check_complete.was c.in_ok-check_room.was) c.in_err-check_room-2.was))
    (answer-log s.ledger s.ranks.now c.view_log-n.result c.view_log-n.ensures.0 s.instances.now s.numbers.now c.check_complete.result _ _ _ c.check_complete.ensures
    (both_said c.check_complete.result c.check_room.result c.check_room.ensures) (both_said _ c.check_room-2.result c.check_room-2.ensures) (both_said _ (unmade c.view_log-n.result _) (unmade_said c.view_log-n.result _))))

pub returns-in_err-check_room-3 : goal.returns-in_err-check_room-3
returns-in_err-check_room-3 c =
    let s = c.args in
    let e : c.from_residual-in_err-check_room-3.result ≡ Err c.in_err-check_room-3.field-0.0 = search rules in
    rw e (reads-refused _ _ _ _ _ _ _ (both_second (both_pass (both_pass c.in_ok-check_complete.was c.in_ok-check_room.was) c.in_ok-check_room-2.was) c.in_err-check_room-3.was)
    (answer-log s.ledger s.ranks.now c.view_log-n.result c.view_log-n.ensures.0 s.instances.now s.numbers.now c.check_complete.result _ _ _ c.check_complete.ensures
    (both_said c.check_complete.result c.check_room.result c.check_room.ensures) (both_said _ c.check_room-2.result c.check_room-2.ensures) (both_said _ c.check_room-3.result c.check_room-3.ensures)))

pub returns : goal.returns
returns c =
    let s = c.args in
    log-told s.ledger s.ranks.now c.view_log-n.result c.view_log-n.ensures.0 s.instances.now s.numbers.now c.check_complete.result _ _ _ c.check_complete.ensures
    (both_said c.check_complete.result c.check_room.result c.check_room.ensures) (both_said _ c.check_room-2.result c.check_room-2.ensures) (both_said _ c.check_room-3.result c.check_room-3.ensures)
    (both_pass (both_pass (both_pass c.in_ok-check_complete.was c.in_ok-check_room.was) c.in_ok-check_room-2.was) c.in_ok-check_room-3.was) (replicate 2048 0) _ refl c.view_log-n.ensures.1 _ _ c.fill_log.ensures
