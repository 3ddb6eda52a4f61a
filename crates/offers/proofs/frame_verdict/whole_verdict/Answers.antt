use Rattle.std.proofs.Common.{Err, rules}
use mathlib.Core.List.{[]}
use mathlib.Core.Path.{◌∙◌, ◌≡◌, ap, refl, sym}
use Rattle.admission.proofs.SearchLaws.{accepts, refuses}
use Rattle.admission.specs.Replies.{reply_to}
use Rattle.offers.proofs.FrameLaws.{values-read, whole-block, whole-checked, whole-early, whole-kind}
use Rattle.plain.specs.Logs.{Values}
use Rattle.plain.specs.Plain.{block_answer}
use Rattle.state.specs.Cells.{past_in}
use Rattle.state.specs.State.{cells_of, kept, sheet_of}
use Rattle.offers.proofs.frame_verdict.whole_verdict.Goals as goal

pub returns-then-not-is_complete : goal.returns-then-not-is_complete
returns-then-not-is_complete c =
    let s = c.args in
    whole-early s.ledger (kept s.sheet.now s.ranks.now s.cuts.now s.cites.now []) s.kind s.content.now s.at (sym c.is_complete.ensures ∙ c.if-not-is_complete.true)

pub returns-then-kind-ne4 : goal.returns-then-kind-ne4
returns-then-kind-ne4 c =
    let s = c.args in
    whole-kind s.ledger (kept s.sheet.now s.ranks.now s.cuts.now s.cites.now []) s.kind s.content.now s.at (sym c.is_complete.ensures ∙ c.if-not-is_complete.false) c.if-kind-ne4.true

pub returns-in_err-check_block : goal.returns-in_err-check_block
returns-in_err-check_block c =
    let s = c.args in
    let K = kept s.sheet.now s.ranks.now s.cuts.now s.cites.now [] in
    let e : c.from_residual.result ≡ Err c.in_err-check_block.field-0.0 = search rules in
    let w = c.in_err-check_block.was in
    rw e (ap reply_to (sym w) ∙ whole-checked s.ledger K s.kind s.content.now s.at (sym c.is_complete.ensures ∙ c.if-not-is_complete.false)
    c.if-kind-ne4.false c.check_block.result c.check_block.ensures (refuses w) refl)

pub returns : goal.returns
returns c =
    let s = c.args in
    let l = s.ledger in
    let K = kept s.sheet.now s.ranks.now s.cuts.now s.cites.now [] in
    let whole = sym c.is_complete.ensures ∙ c.if-not-is_complete.false in
    let w = c.in_ok-check_block.was in
    whole-block l K s.kind s.content.now s.at whole c.if-kind-ne4.false c.check_block.result c.check_block.ensures (accepts w) refl _
    (c.block_verdict.ensures ∙ ap (λ (v : Values). block_answer (sheet_of l K) (past_in (cells_of l K)) v)
    (values-read s.content.now s.at _ _ _ (sym c.check_block.ensures ∙ w) c.block_of.ensures c.citations_in.ensures.held))
