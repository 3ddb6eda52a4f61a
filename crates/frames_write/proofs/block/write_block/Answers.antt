use lib.ListN.{length}
use mathlib.Core.Path.{◌∙◌, ap, sym}
use native.Mathlib.Omega.{arith}
use Rattle.encoding.proofs.Lengths.{length-block}
use Rattle.encoding.proofs.VerdictLaws.{few-cites}
use Rattle.encoding.proofs.WritingLaws.{finished}
use Rattle.frames_write.proofs.block.write_block.Goals as goal

pub block_body-body-requires : goal.block_body-body-requires
block_body-body-requires c = few-cites c.args.s c.args.block.cut c.args.count (length c.args.cites.now) (sym c.block_verdict.ensures ∙ c.in_ok-block_verdict.was)

pub slice_bounds-body-end : goal.slice_bounds-body-end
slice_bounds-body-end c = let few = few-cites c.args.s c.args.block.cut c.args.count (length c.args.cites.now) (sym c.block_verdict.ensures ∙ c.in_ok-block_verdict.was) in omega (arith, few.0, few.1)

pub slice_bounds-put_frame-end : goal.slice_bounds-put_frame-end
slice_bounds-put_frame-end c = sym (ap length c.block_body-body.ensures ∙ length-block c.args.s.m c.args.block c.args.cites.now)

pub returns : goal.returns
returns c =
    let fine = sym c.block_verdict.ensures ∙ c.in_ok-block_verdict.was in
    let few = few-cites c.args.s c.args.block.cut c.args.count (length c.args.cites.now) fine in
    finished 4 c.args.out.now fine c.block_body-body.ensures (omega (arith, length-block c.args.s.m c.args.block c.args.cites.now, few.0, few.1)) c.put_frame.ensures
