use Rattle.std.proofs.Common.{Err, rules}
use mathlib.Core.Path.{◌≡◌, refl}
use Rattle.report.proofs.RoomLaws.{room-refused, room_then}
use Rattle.report.proofs.report.check_lent.Goals as goal

pub returns-in_err-check_lengths : goal.returns-in_err-check_lengths
returns-in_err-check_lengths c =
    let e : c.from_residual.result ≡ Err c.in_err-check_lengths.field-0.0 = search rules in
    rw e (room-refused _ _ 262144 _ _ refl c.check_lengths.ensures _ c.in_err-check_lengths.was)

pub returns : goal.returns
returns c = room_then _ _ 262144 _ _ refl c.check_lengths.ensures c.in_ok-check_lengths.was c.check_room.ensures
