use mathlib.Core.Path.{◌≡◌, refl}
use native.Mathlib.Omega.{arith}
use Rattle.encoding.proofs.WritingLaws.{emitted_long, emitted-short, emitted-whole, refused-answer}
use Rattle.encoding.specs.Body.{frame_bytes}
use Rattle.std.proofs.Common.{Err, rules}
use Rattle.encoding.proofs.emit.put_frame.Goals as goal

pub returns-in_err-checked : goal.returns-in_err-checked
returns-in_err-checked c =
    let e : c.from_residual.result ≡ Err c.in_err-checked.field-0.0 = search rules in
    rw e (rw c.in_err-checked.was (refused-answer (frame_bytes c.args.kind c.args.body.now) c.args.out.now refl))

pub returns-then-n-gt8192 : goal.returns-then-n-gt8192
returns-then-n-gt8192 c = rw c.in_ok-checked.was (emitted_long c.args.kind c.args.body.now c.args.out.now (omega arith))

pub returns-then-out-n : goal.returns-then-out-n
returns-then-out-n c = rw c.in_ok-checked.was (emitted-short c.args.kind c.args.body.now c.args.out.now (omega arith) (omega arith))

pub returns : goal.returns
returns c =
    rw c.in_ok-checked.was (emitted-whole c.args.kind c.args.body.now c.args.out.now (omega arith) (omega arith)
    (rw (c.put_bytes.ensures, c.put_u16.ensures, c.put_u32.ensures) refl))
