use Rattle.std.proofs.Common.{Err, rules}
use mathlib.Core.List.{[]}
use mathlib.Core.Path.{◌∙◌, ◌≡◌, ap, sym}
use Rattle.admission.specs.Replies.{reply_to}
use Rattle.readings.proofs.CallLaws.{answer-share, share_told}
use Rattle.readings.proofs.ReadLaws.{reads-refused}
use Rattle.settlement.specs.Tables.{buffers}
use Rattle.state.specs.State.{kept}
use Rattle.readings.proofs.share.share.Goals as goal

pub settle_full-registers-requires : goal.settle_full-registers-requires
settle_full-registers-requires c = sym c.check_buffers.ensures ∙ ap reply_to c.in_ok-check_buffers.was

pub returns-in_err-check_buffers : goal.returns-in_err-check_buffers
returns-in_err-check_buffers c =
    let s = c.args in
    let K = kept s.sheet.now s.ranks.now [] s.cites.now s.good.now in
    let W = buffers s.counts.now s.table.now s.order.now in
    let e : c.from_residual.result ≡ Err c.in_err-check_buffers.field-0.0 = search rules in
    rw e (reads-refused _ _ _ _ _ _ _ c.in_err-check_buffers.was (answer-share s.ledger K W c.check_buffers.result c.check_buffers.ensures))

pub returns : goal.returns
returns c =
    let s = c.args in
    let K = kept s.sheet.now s.ranks.now [] s.cites.now s.good.now in
    let W = buffers s.counts.now s.table.now s.order.now in
    share_told s.ledger K W c.check_buffers.result c.check_buffers.ensures c.in_ok-check_buffers.was _ _ c.settle_full-registers.ensures c.sizes.result c.sizes.ensures _ c.share_of.ensures
