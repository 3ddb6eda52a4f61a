use mathlib.Core.Path.{sym}
use native.Mathlib.Omega.{arith}
use Rattle.frames.proofs.FrameLaws.{frame-body-short, frame_end, frame-field-short, frame-high, frame_low, frame-whole}
use Rattle.frames.proofs.frame.frame.Goals as goal

pub returns-then-n-at : goal.returns-then-n-at
returns-then-n-at c = sym (frame_end c.args.run.now c.args.at (omega arith))

pub returns-then-n-at-2 : goal.returns-then-n-at-2
returns-then-n-at-2 c = sym (frame-field-short c.args.run.now c.args.at (omega arith) (omega arith))

pub returns-then-l-lt2 : goal.returns-then-l-lt2
returns-then-l-lt2 c = sym (frame_low c.args.run.now c.args.at (omega arith) (omega arith) (omega arith))

pub returns-then-l-gt8194 : goal.returns-then-l-gt8194
returns-then-l-gt8194 c = sym (frame-high c.args.run.now c.args.at (omega arith) (omega arith) (omega arith))

pub returns-then-n-at-3 : goal.returns-then-n-at-3
returns-then-n-at-3 c = sym (frame-body-short c.args.run.now c.args.at (omega arith) (omega arith) (omega arith) (omega arith) (omega arith))

pub returns : goal.returns
returns c =
    let e = frame-whole c.args.run.now c.args.at (omega arith) (omega arith) (omega arith) (omega arith) (omega arith) in
    rw (c.u16_at.ensures, c.u32_at-l.ensures) (sym e)
