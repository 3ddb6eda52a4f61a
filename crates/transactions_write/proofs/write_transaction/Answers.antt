use Prim.Native.Nat.{◌*◌, ◌+◌, ℕ}
use lib.ListN.{take}
use mathlib.Core.Path.{◌∙◌, ◌≡◌, ap, sym}
use native.Mathlib.Omega.{arith}
use Rattle.encoding.proofs.VerdictLaws.{transaction-lists, transaction_not_due}
use Rattle.encoding.proofs.WritingLaws.{finished, refused-answer}
use Rattle.encoding.specs.Body.{frame_bytes, transaction_body}
use Rattle.std.proofs.Common.{Err, rules}
use Rattle.transactions_write.proofs.BodyStores.{agree_is, body_judged, length_from, sized_from}
use Rattle.transactions_write.specs.Inner.{members_bytes}
use Rattle.transactions_write.specs.Values.{lists, lists_agree, transaction_with}
use Rattle.transactions_write.proofs.write_transaction.Goals as goal

pub returns-then-kind_due-ne3 : goal.returns-then-kind_due-ne3
returns-then-kind_due-ne3 c =
    let d = c.kind_due.ensures in
    let l = lists c.args.payers.now c.args.debits.now c.args.payees.now c.args.credits.now c.args.codes.now c.args.registers.now c.args.values.now in
    let t = transaction_with c.args.n.kind l in
    refused-answer (frame_bytes 3 (transaction_body t)) c.args.out.now (transaction_not_due c.args.s (lists_agree c.args.n l) t (rw d at c.if-kind_due-ne3.true))

pub returns-then-not-agree : goal.returns-then-not-agree
returns-then-not-agree c =
    let l = lists c.args.payers.now c.args.debits.now c.args.payees.now c.args.credits.now c.args.codes.now c.args.registers.now c.args.values.now in
    let t = transaction_with c.args.n.kind l in
    refused-answer (frame_bytes 3 (transaction_body t)) c.args.out.now
    (transaction-lists c.args.s (lists_agree c.args.n l) t (sym c.kind_due.ensures ∙ c.if-kind_due-ne3.false) (sym c.agree.ensures ∙ c.if-not-agree.true))

pub transaction_body-whole-requires : goal.transaction_body-whole-requires
transaction_body-whole-requires c =
    let g = agree_is c.args.n _ (sym c.agree.ensures ∙ c.if-not-agree.false) in
    (omega (arith, g.payers_long, g.payees_long, g.codes_long), g)

pub returns-in_err-check_transaction : goal.returns-in_err-check_transaction
returns-in_err-check_transaction c =
    let l = lists c.args.payers.now c.args.debits.now c.args.payees.now c.args.credits.now c.args.codes.now c.args.registers.now c.args.values.now in
    let fits = sized_from c.args.n.kind l (λ k. omega (arith, c.type_inv.payers k)) (λ k. omega (arith, c.type_inv.debits k)) (λ k. omega (arith, c.type_inv.payees k))
    (λ k. omega (arith, c.type_inv.credits k)) (λ k. omega (arith, c.type_inv.values k)) in
    let agreed = sym c.agree.ensures ∙ c.if-not-agree.false in
    let g = agree_is c.args.n l agreed in
    let q : 4 + 6 * c.args.n.debits + 6 * c.args.n.credits + 6 * c.args.n.operations ≡ members_bytes l = omega (arith, g.payers_long, g.payees_long, g.codes_long) in
    let body = ap (λ (k : ℕ). take k c.transaction_body-whole.result) q ∙ c.transaction_body-whole.ensures in
    let e : c.from_residual.result ≡ Err c.in_err-check_transaction.field-0.0 = search rules in
    rw e (refused-answer (frame_bytes 3 (transaction_body (transaction_with c.args.n.kind l))) c.args.out.now
    (body_judged c.args.s c.args.n l (sym c.kind_due.ensures ∙ c.if-kind_due-ne3.false) agreed fits body c.check_transaction.ensures ∙ c.in_err-check_transaction.was))

pub returns : goal.returns
returns c =
    let l = lists c.args.payers.now c.args.debits.now c.args.payees.now c.args.credits.now c.args.codes.now c.args.registers.now c.args.values.now in
    let fits = sized_from c.args.n.kind l (λ k. omega (arith, c.type_inv.payers k)) (λ k. omega (arith, c.type_inv.debits k)) (λ k. omega (arith, c.type_inv.payees k))
    (λ k. omega (arith, c.type_inv.credits k)) (λ k. omega (arith, c.type_inv.values k)) in
    let agreed = sym c.agree.ensures ∙ c.if-not-agree.false in
    let g = agree_is c.args.n l agreed in
    let q : 4 + 6 * c.args.n.debits + 6 * c.args.n.credits + 6 * c.args.n.operations ≡ members_bytes l = omega (arith, g.payers_long, g.payees_long, g.codes_long) in
    let body = ap (λ (k : ℕ). take k c.transaction_body-whole.result) q ∙ c.transaction_body-whole.ensures in
    finished 3 c.args.out.now (body_judged c.args.s c.args.n l (sym c.kind_due.ensures ∙ c.if-kind_due-ne3.false) agreed fits body c.check_transaction.ensures ∙ c.in_ok-check_transaction.was)
    body (omega (arith, length_from c.args.n l g, g.payers_long, g.payees_long, g.codes_long)) c.put_frame.ensures
