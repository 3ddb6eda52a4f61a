use Rattle.std.proofs.Common.{Err, rules}
use mathlib.Core.List.{[]}
use mathlib.Core.Path.{◌∙◌, ◌≡◌, ap, refl, sym}
use Rattle.admission.proofs.SearchLaws.{accepts, refuses}
use Rattle.admission.specs.Replies.{reply_to}
use Rattle.offers.proofs.FrameLaws.{frame_end, frame-short, frame_refused, frame-whole}
use Rattle.plain.specs.Plain.{lent_answer}
use Rattle.refusals.proofs.CheckedLaws.{ok_is}
use Rattle.state.specs.Lengths.{needs_list}
use Rattle.state.specs.State.{kept}
use Rattle.state.specs.declared.lengths.Lengths.{Lengths}
use Rattle.offers.proofs.frame_verdict.placed_verdict.Goals as goal

pub returns-in_err-check_lengths : goal.returns-in_err-check_lengths
returns-in_err-check_lengths c left =
    let s = c.args in
    let l = s.ledger in
    let K = kept s.sheet.now s.ranks.now s.cuts.now s.cites.now [] in
    let n = needs_list s.lent in
    let e : c.from_residual.result ≡ Err c.in_err-check_lengths.field-0.0 = search rules in
    let w = c.in_err-check_lengths.was in
    rw e (ap reply_to (sym w) ∙ frame-short l K n s.bytes.now s.at left (reply_to c.check_lengths.result) (c.check_lengths.ensures ∙ ap (λ (x : Lengths). lent_answer (needs_list x) n) c.least_lengths.ensures) (refuses w) refl)

pub returns-in_err-kind : goal.returns-in_err-kind
returns-in_err-kind c left =
    let s = c.args in
    let l = s.ledger in
    let K = kept s.sheet.now s.ranks.now s.cuts.now s.cites.now [] in
    let n = needs_list s.lent in
    let e : c.from_residual-in_err-kind.result ≡ Err c.in_err-kind.field-0.0 = search rules in
    rw e (frame_refused l K n s.bytes.now s.at left (reply_to c.check_lengths.result) (c.check_lengths.ensures ∙ ap (λ (x : Lengths). lent_answer (needs_list x) n) c.least_lengths.ensures) (accepts c.in_ok-check_lengths.was) refl _ (sym c.frame.ensures ∙ c.in_err-kind.was))

pub returns-in-Some : goal.returns-in-Some
returns-in-Some c left =
    let s = c.args in
    let l = s.ledger in
    let K = kept s.sheet.now s.ranks.now s.cuts.now s.cites.now [] in
    let n = needs_list s.lent in
    frame-whole l K n s.bytes.now s.at left (reply_to c.check_lengths.result) (c.check_lengths.ensures ∙ ap (λ (x : Lengths). lent_answer (needs_list x) n) c.least_lengths.ensures) (accepts c.in_ok-check_lengths.was) refl (ok_is (sym c.frame.ensures ∙ c.in_ok-kind.was) c.in-Some.is) _ _ c.body.ensures.0 c.whole_verdict.ensures

pub returns-in-None : goal.returns-in-None
returns-in-None c left =
    let s = c.args in
    let l = s.ledger in
    let K = kept s.sheet.now s.ranks.now s.cuts.now s.cites.now [] in
    let n = needs_list s.lent in
    frame_end l K n s.bytes.now s.at left (reply_to c.check_lengths.result) (c.check_lengths.ensures ∙ ap (λ (x : Lengths). lent_answer (needs_list x) n) c.least_lengths.ensures) (accepts c.in_ok-check_lengths.was) refl (ok_is (sym c.frame.ensures ∙ c.in_ok-kind.was) c.in-None.is)
