use lib.ListN.{length}
use mathlib.Core.List.{[]}
use mathlib.Core.Path.{refl}
use Rattle.account_records.proofs.BesideLaws.{all_fit, records-read}
use Rattle.admission.specs.Replies.{reply_to}
use Rattle.settlement.specs.Tables.{buffers}
use Rattle.state.specs.State.{kept}
use Rattle.account_records.proofs.account_records.Goals as goal

pub fill_records-requires : goal.fill_records-requires
fill_records-requires c =
    let k = c.accounts_beside-answer.new in
    let K = kept c.args.sheet.now c.args.ranks.now [] c.args.cites.now c.args.good.now in
    let W = buffers c.args.counts.now c.args.table.now c.args.order.now in
    all_fit c.args.ledger K W c.args.free.now c.args.held.now (length c.args.records.now) (reply_to c.accounts_beside-answer.result)
    (buffers k.counts k.table k.order) k.free k.held c.accounts_beside-answer.ensures c.records_due-n.result c.records_due-n.ensures
    c.accounts_beside-answer.auto.free c.accounts_beside-answer.auto.held

pub returns : goal.returns
returns c =
    let k = c.accounts_beside-answer.new in
    let K = kept c.args.sheet.now c.args.ranks.now [] c.args.cites.now c.args.good.now in
    let W = buffers c.args.counts.now c.args.table.now c.args.order.now in
    records-read c.args.ledger K W c.args.free.now c.args.held.now (length c.args.records.now) (reply_to c.accounts_beside-answer.result)
    (buffers k.counts k.table k.order) k.free k.held c.accounts_beside-answer.ensures c.records_due-n.result c.records_due-n.ensures
    c.args.records.now _ refl c.fill_records.ensures
