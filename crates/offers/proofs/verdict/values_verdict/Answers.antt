use Rattle.std.proofs.Common.{Err, rules}
use Prim.Native.Nat.{ℕ}
use mathlib.Core.List.{List, []}
use mathlib.Core.Path.{◌∙◌, ◌≡◌, ap, refl, sym}
use Rattle.admission.proofs.SearchLaws.{accepts, refuses}
use Rattle.admission.specs.Citing.{values_with}
use Rattle.admission.specs.Replies.{reply_to}
use Rattle.offers.proofs.VerdictLaws.{values-block, values-early, values-few, values-front-stop, values-short, whole_list}
use Rattle.plain.specs.Plain.{block_answer, lent_answer}
use Rattle.state.specs.Cells.{past_in}
use Rattle.state.specs.Lengths.{needs_list}
use Rattle.state.specs.State.{cells_of, kept, sheet_of}
use Rattle.state.specs.declared.lengths.Lengths.{Lengths}
use Rattle.offers.proofs.verdict.values_verdict.Goals as goal

pub returns-in_err-check_lengths : goal.returns-in_err-check_lengths
returns-in_err-check_lengths c =
    let s = c.args in
    let l = s.ledger in
    let K = kept s.sheet.now s.ranks.now s.cuts.now s.cites.now [] in
    let n = needs_list s.lent in
    let e : c.from_residual.result ≡ Err c.in_err-check_lengths.field-0.0 = search rules in
    let w = c.in_err-check_lengths.was in
    rw e (ap reply_to (sym w) ∙ values-short l K n (values_with s.block s.citations.now) (reply_to c.check_lengths.result) (c.check_lengths.ensures ∙ ap (λ (x : Lengths). lent_answer (needs_list x) n) c.least_lengths.ensures) (refuses w) refl)

pub returns-then-not-is_complete : goal.returns-then-not-is_complete
returns-then-not-is_complete c =
    let s = c.args in
    let l = s.ledger in
    let K = kept s.sheet.now s.ranks.now s.cuts.now s.cites.now [] in
    let n = needs_list s.lent in
    values-early l K n (values_with s.block s.citations.now) (reply_to c.check_lengths.result) (c.check_lengths.ensures ∙ ap (λ (x : Lengths). lent_answer (needs_list x) n) c.least_lengths.ensures)
    (accepts c.in_ok-check_lengths.was) refl (sym c.is_complete.ensures ∙ c.if-not-is_complete.true)

pub returns-in_err-check_values : goal.returns-in_err-check_values
unfolding values_with
returns-in_err-check_values c =
    let s = c.args in
    let l = s.ledger in
    let K = kept s.sheet.now s.ranks.now s.cuts.now s.cites.now [] in
    let n = needs_list s.lent in
    let e : c.from_residual-in_err-check_values.result ≡ Err c.in_err-check_values.field-0.0 = search rules in
    let w = c.in_err-check_values.was in
    rw e (ap reply_to (sym w) ∙ values-front-stop l K n (values_with s.block s.citations.now) (reply_to c.check_lengths.result) (c.check_lengths.ensures ∙ ap (λ (x : Lengths). lent_answer (needs_list x) n) c.least_lengths.ensures)
    (accepts c.in_ok-check_lengths.was) refl (sym c.is_complete.ensures ∙ c.if-not-is_complete.false) (reply_to c.check_values.result) c.check_values.ensures (refuses w) refl)

pub returns : goal.returns
unfolding values_with past_in
returns c =
    let s = c.args in
    let l = s.ledger in
    let K = kept s.sheet.now s.ranks.now s.cuts.now s.cites.now [] in
    let n = needs_list s.lent in
    let few = whole_list s.citations.now (values-few _ _ _ (reply_to c.check_values.result) c.check_values.ensures (accepts c.in_ok-check_values.was) refl) in
    values-block l K n (values_with s.block s.citations.now) (reply_to c.check_lengths.result) (c.check_lengths.ensures ∙ ap (λ (x : Lengths). lent_answer (needs_list x) n) c.least_lengths.ensures)
    (accepts c.in_ok-check_lengths.was) refl (sym c.is_complete.ensures ∙ c.if-not-is_complete.false) (reply_to c.check_values.result) c.check_values.ensures (accepts c.in_ok-check_values.was) refl _
    (c.block_verdict.ensures ∙ ap (λ (x : List ℕ). block_answer (sheet_of l K) (past_in (cells_of l K)) (values_with s.block x)) (c.citations_of.ensures.held ∙ few))
