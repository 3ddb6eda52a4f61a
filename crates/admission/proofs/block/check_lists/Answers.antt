use Rattle.std.proofs.Common.{Err, rules}
use mathlib.Core.List.{[]}
use mathlib.Core.Path.{◌∙◌, ◌≡◌}
use Rattle.admission.proofs.BlockLaws.{lists_are}
use Rattle.admission.proofs.SearchLaws.{let_pass, turned_away}
use Rattle.admission.proofs.block.check_lists.Goals as goal

pub returns-in_err-order : goal.returns-in_err-order
returns-in_err-order c =
    let s = c.args in
    let e : c.from_residual.result ≡ Err c.in_err-order.field-0.0 = search rules in
    rw e (turned_away c.check_order-order.ensures _ c.in_err-order.was ∙ lists_are s.sheet.now s.z s.heights [] s.cuts.now s.cites.now s.block s.list)

pub returns-in_err-cover : goal.returns-in_err-cover
returns-in_err-cover c =
    let s = c.args in
    let e : c.from_residual-in_err-cover.result ≡ Err c.in_err-cover.field-0.0 = search rules in
    rw e (let_pass c.check_order-order.ensures c.in_ok-order.was (turned_away c.check_cover-cover.ensures _ c.in_err-cover.was)
    ∙ lists_are s.sheet.now s.z s.heights [] s.cuts.now s.cites.now s.block s.list)

pub returns : goal.returns
returns c =
    let s = c.args in
    let_pass c.check_order-order.ensures c.in_ok-order.was (let_pass c.check_cover-cover.ensures c.in_ok-cover.was c.check_cites.ensures)
    ∙ lists_are s.sheet.now s.z s.heights [] s.cuts.now s.cites.now s.block s.list
