use mathlib.Core.Path.{sym}
use native.Mathlib.Omega.{arith}
use Rattle.encoding.proofs.Lengths.{header_long}
use Rattle.encoding.proofs.WritingLaws.{finished}
use Rattle.frames_write.proofs.header.write_header.Goals as goal

pub returns : goal.returns
returns c = finished 1 c.args.out.now (sym c.header_verdict.ensures) c.header_body.ensures (omega (arith, header_long c.args.h)) c.put_frame.ensures
