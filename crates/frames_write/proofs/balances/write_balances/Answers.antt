use lib.ListN.{length}
use mathlib.Core.Path.{◌∙◌, ap, sym}
use native.Mathlib.Omega.{arith}
use Rattle.encoding.proofs.Lengths.{length-balances}
use Rattle.encoding.proofs.VerdictLaws.{few-balances}
use Rattle.encoding.proofs.WritingLaws.{finished}
use Rattle.frames_write.proofs.balances.write_balances.Goals as goal

pub balances_body-body-requires : goal.balances_body-body-requires
balances_body-body-requires c = few-balances c.args.s c.args.list.now (sym c.balances_verdict.ensures ∙ c.in_ok-balances_verdict.was)

pub slice_bounds-body-end : goal.slice_bounds-body-end
slice_bounds-body-end c = let few = few-balances c.args.s c.args.list.now (sym c.balances_verdict.ensures ∙ c.in_ok-balances_verdict.was) in omega arith

pub slice_bounds-put_frame-end : goal.slice_bounds-put_frame-end
slice_bounds-put_frame-end c = sym (ap length c.balances_body-body.ensures ∙ length-balances c.args.list.now)

pub returns : goal.returns
returns c =
    let fine = sym c.balances_verdict.ensures ∙ c.in_ok-balances_verdict.was in
    finished 2 c.args.out.now fine c.balances_body-body.ensures (omega (arith, length-balances c.args.list.now, few-balances c.args.s c.args.list.now fine)) c.put_frame.ensures
