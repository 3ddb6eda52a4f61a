use Rattle.std.proofs.Common.{Err, rules}
use mathlib.Core.Path.{◌≡◌}
use Rattle.state.proofs.LengthLaws.{lent_last, passed_next, lent_short}
use Rattle.state.proofs.lengths.check_lengths.Goals as goal

pub returns-in_err-check_room : goal.returns-in_err-check_room
returns-in_err-check_room c =
    let e : c.from_residual.result ≡ Err c.in_err-check_room.field-0.0 = search rules in
    rw e (lent_short _ _ _ _ c.check_room.ensures c.in_err-check_room.was)

pub returns-in_err-check_room-2 : goal.returns-in_err-check_room-2
returns-in_err-check_room-2 c =
    let e : c.from_residual-in_err-check_room-2.result ≡ Err c.in_err-check_room-2.field-0.0 = search rules in
    rw e (passed_next _ _ _ _ c.check_room.ensures c.in_ok-check_room.was
    (lent_short _ _ _ _ c.check_room-2.ensures c.in_err-check_room-2.was))

pub returns-in_err-check_room-3 : goal.returns-in_err-check_room-3
returns-in_err-check_room-3 c =
    let e : c.from_residual-in_err-check_room-3.result ≡ Err c.in_err-check_room-3.field-0.0 = search rules in
    rw e (passed_next _ _ _ _ c.check_room.ensures c.in_ok-check_room.was
    (passed_next _ _ _ _ c.check_room-2.ensures c.in_ok-check_room-2.was
    (lent_short _ _ _ _ c.check_room-3.ensures c.in_err-check_room-3.was)))

pub returns-in_err-check_room-4 : goal.returns-in_err-check_room-4
returns-in_err-check_room-4 c =
    let e : c.from_residual-in_err-check_room-4.result ≡ Err c.in_err-check_room-4.field-0.0 = search rules in
    rw e (passed_next _ _ _ _ c.check_room.ensures c.in_ok-check_room.was
    (passed_next _ _ _ _ c.check_room-2.ensures c.in_ok-check_room-2.was
    (passed_next _ _ _ _ c.check_room-3.ensures c.in_ok-check_room-3.was
    (lent_short _ _ _ _ c.check_room-4.ensures c.in_err-check_room-4.was))))

pub returns-in_err-check_room-5 : goal.returns-in_err-check_room-5
returns-in_err-check_room-5 c =
    let e : c.from_residual-in_err-check_room-5.result ≡ Err c.in_err-check_room-5.field-0.0 = search rules in
    rw e (passed_next _ _ _ _ c.check_room.ensures c.in_ok-check_room.was
    (passed_next _ _ _ _ c.check_room-2.ensures c.in_ok-check_room-2.was
    (passed_next _ _ _ _ c.check_room-3.ensures c.in_ok-check_room-3.was
    (passed_next _ _ _ _ c.check_room-4.ensures c.in_ok-check_room-4.was
    (lent_short _ _ _ _ c.check_room-5.ensures c.in_err-check_room-5.was)))))

pub returns-in_err-check_room-6 : goal.returns-in_err-check_room-6
returns-in_err-check_room-6 c =
    let e : c.from_residual-in_err-check_room-6.result ≡ Err c.in_err-check_room-6.field-0.0 = search rules in
    rw e (passed_next _ _ _ _ c.check_room.ensures c.in_ok-check_room.was
    (passed_next _ _ _ _ c.check_room-2.ensures c.in_ok-check_room-2.was
    (passed_next _ _ _ _ c.check_room-3.ensures c.in_ok-check_room-3.was
    (passed_next _ _ _ _ c.check_room-4.ensures c.in_ok-check_room-4.was
    (passed_next _ _ _ _ c.check_room-5.ensures c.in_ok-check_room-5.was
    (lent_short _ _ _ _ c.check_room-6.ensures c.in_err-check_room-6.was))))))

pub returns-in_err-check_room-7 : goal.returns-in_err-check_room-7
returns-in_err-check_room-7 c =
    let e : c.from_residual-in_err-check_room-7.result ≡ Err c.in_err-check_room-7.field-0.0 = search rules in
    rw e (passed_next _ _ _ _ c.check_room.ensures c.in_ok-check_room.was
    (passed_next _ _ _ _ c.check_room-2.ensures c.in_ok-check_room-2.was
    (passed_next _ _ _ _ c.check_room-3.ensures c.in_ok-check_room-3.was
    (passed_next _ _ _ _ c.check_room-4.ensures c.in_ok-check_room-4.was
    (passed_next _ _ _ _ c.check_room-5.ensures c.in_ok-check_room-5.was
    (passed_next _ _ _ _ c.check_room-6.ensures c.in_ok-check_room-6.was
    (lent_short _ _ _ _ c.check_room-7.ensures c.in_err-check_room-7.was)))))))

pub returns : goal.returns
returns c =
    passed_next _ _ _ _ c.check_room.ensures c.in_ok-check_room.was
    (passed_next _ _ _ _ c.check_room-2.ensures c.in_ok-check_room-2.was
    (passed_next _ _ _ _ c.check_room-3.ensures c.in_ok-check_room-3.was
    (passed_next _ _ _ _ c.check_room-4.ensures c.in_ok-check_room-4.was
    (passed_next _ _ _ _ c.check_room-5.ensures c.in_ok-check_room-5.was
    (passed_next _ _ _ _ c.check_room-6.ensures c.in_ok-check_room-6.was
    (passed_next _ _ _ _ c.check_room-7.ensures c.in_ok-check_room-7.was
    (lent_last _ _ c.check_room-8.ensures)))))))
