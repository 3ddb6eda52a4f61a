-- The stores of the writer: what each loop's turn and the body's stores leave; and that the values fit.
-- Assumes nothing.
use Prim.Native.Nat.{◌*◌, ◌+◌, ◌<◌, ◌≤◌, ℕ}
use borrow.Author.Tests.{eqb-true}
use lib.Dec.{eqb}
use lib.ListN.{drop, get_or, length, length-drop, set}
use Rattle.std.proofs.Common.{rules}
use Rattle.std.proofs.lemmas.Bool.{cases_lt}
use Rattle.std.proofs.lemmas.List.{drop_all, drop_more}
use mathlib.Core.Logic.{⊎_elim}
use lib.Seq.{sets}
use mathlib.Core.Bool.{true}
use mathlib.Core.List.{List, [], ◌++◌, ◌∷◌}
use mathlib.Core.Path.{◌∙◌, ◌≡◌, ap, refl, sym}
use native.Mathlib.Numerals.{add-one}
use native.Mathlib.Omega.{arith}
use Rattle.encoding.proofs.Lengths.{entry_long, length-transaction, operation_long}
use Rattle.encoding.specs.Body.{entries_bytes, entry_bytes, operation_bytes, operations_bytes, transaction_body}
use Rattle.encoding.specs.Fits.{TransactionFits}
use Rattle.encoding.proofs.TransactionTrip.{check_written}
use Rattle.encoding.proofs.VerdictLaws.{transaction-judged}
use Rattle.encoding.specs.Verdict.{transaction_verdict}
use Rattle.frames.specs.Step.{kind_due}
use Rattle.frames.specs.declared.step.Loading.{Loading}
use Rattle.refusals.specs.Refusals.{Checked}
use Rattle.transactions.specs.Check.{check_transaction}
use Rattle.fields.proofs.NumberLaws.{length-le_bytes}
use Rattle.fields.proofs.RowLaws.{length_list, rows_store}
use Rattle.fields.proofs.StoreLaws.{sets_then, three_runs}
use Rattle.fields.specs.Number.{le_bytes, store_number}
use Rattle.fields.specs.Rows.{rows_to}
use Rattle.sums.proofs.SeqLaws.{get_d_tabulate, length-tabulate}
use Rattle.sums.proofs.TestLaws.{both_true}
use Rattle.transactions.specs.Content.{no_entry, no_operation}
use Rattle.transactions_write.specs.Inner.{Agree, members_bytes}
use Rattle.transactions_write.specs.Values.{Lists, counts_agree, entries_with, entry_with, lists_agree, operation_with, operations_with, transaction_with}
use Rattle.transactions_write.specs.declared.Counts.{Counts}

entry_row : (l : List ℕ) (i x y : ℕ) → store_number 4 (store_number 2 l i x) (i + 2) y ≡ sets l i (le_bytes 2 x ++ le_bytes 4 y)
unfolding store_number
entry_row l i x y = sets_then (le_bytes 2 x) (le_bytes 4 y) l i (i + 2) (rw length-le_bytes refl)

-- a loop stores one entry more
pub entries-more : (l accounts amounts : List ℕ) (at k : ℕ) {old mid new : List ℕ} → old ≡ sets l at (rows_to k (λ i. entry_bytes (entry_with accounts amounts i)))
    → mid ≡ store_number 2 old (at + 6 * k) (get_or accounts k 0) → new ≡ store_number 4 mid (at + 6 * k + 2) (get_or amounts k 0)
    → new ≡ sets l at (rows_to (k + 1) (λ i. entry_bytes (entry_with accounts amounts i)))
entries-more l accounts amounts at k {old = old} e p q =
    rw (q, p) (entry_row old (at + 6 * k) (get_or accounts k 0) (get_or amounts k 0)
    ∙ rw e (rows_store 6 (λ i. entry_bytes (entry_with accounts amounts i)) (λ i. entry_long (entry_with accounts amounts i)) l at k))

-- the first of what is left of a list from a place on
pub left_turn : {x : ℕ} {r : List ℕ} (l : List ℕ) (k : ℕ) → x ∷ r ≡ drop k l → (k < length l) × (x ≡ get_or l k 0) × (r ≡ drop (k + 1) l)
left_turn {x} {r} l k e = ⊎_elim (λ h. found h (e ∙ drop_more l k 0 h)) (λ h. absurd (let z : ◌≡◌ {A = List ℕ} (x ∷ r) [] = e ∙ drop_all k l h in search rules)) (cases_lt k (length l))
  where
    found : k < length l → x ∷ r ≡ get_or l k 0 ∷ drop (k + 1) l → (k < length l) × (x ≡ get_or l k 0) × (r ≡ drop (k + 1) l)
    found h q = (h, cc, cc)

pub left_end : {r : List ℕ} (l : List ℕ) (k : ℕ) → length r ≡ 0 → r ≡ drop k l → length l ≤ k
left_end l k z e = let n = ap length e ∙ length-drop k l in omega arith

operation_row : (l : List ℕ) (i c r v : ℕ) → store_number 4 (set (set l i c) (i + 1) r) (i + 2) v ≡ sets l i (c ∷ r ∷ le_bytes 4 v)
unfolding store_number
operation_row l i c r v = rw (add-one i) (sets_then (c ∷ r ∷ []) (le_bytes 4 v) l i (i + 2) refl)

-- and one operation more
pub operations-more : (l codes registers values : List ℕ) (at k : ℕ) {old one two new : List ℕ} → old ≡ sets l at (rows_to k (λ i. operation_bytes (operation_with codes registers values i)))
    → one ≡ set old (at + 6 * k) (get_or codes k 0) → two ≡ set one (at + 6 * k + 1) (get_or registers k 0) → new ≡ store_number 4 two (at + 6 * k + 2) (get_or values k 0)
    → new ≡ sets l at (rows_to (k + 1) (λ i. operation_bytes (operation_with codes registers values i)))
operations-more l codes registers values at k {old = old} e p q r =
    rw (r, q, p) (operation_row old (at + 6 * k) (get_or codes k 0) (get_or registers k 0) (get_or values k 0)
    ∙ rw e (rows_store 6 (λ i. operation_bytes (operation_with codes registers values i)) (λ i. operation_long (operation_with codes registers values i)) l at k))

pub agree_is : (n : Counts) (l : Lists) → lists_agree n l ≡ true → Agree n l
unfolding counts_agree
agree_is n l e =
    let p1 = both_true (eqb (length l.payers) n.debits) e in
    let p2 = both_true (eqb (length l.debits) n.debits) p1.1 in
    let p3 = both_true (eqb (length l.payees) n.credits) p2.1 in
    let p4 = both_true (eqb (length l.credits) n.credits) p3.1 in
    let p5 = both_true (eqb (length l.codes) n.operations) p4.1 in
    let p6 = both_true (eqb (length l.registers) n.operations) p5.1 in
    record {
      payers_long = eqb-true _ _ p1.0;
      debits_long = eqb-true _ _ p2.0;
      payees_long = eqb-true _ _ p3.0;
      credits_long = eqb-true _ _ p4.0;
      codes_long = eqb-true _ _ p5.0;
      registers_long = eqb-true _ _ p6.0;
      values_long = eqb-true _ _ p6.1;
    }

module _ (n : Counts) (l : Lists) (agree : Agree n l) where
  pub length_from : length (transaction_body (transaction_with n.kind l)) ≡ members_bytes l
  unfolding transaction_with
  length_from = simp (length-transaction, length-tabulate) refl

  pub transaction_stores : (out : List ℕ) (second third : ℕ) → second ≡ 4 + 6 * length l.payers → third ≡ second + 6 * length l.payees
      → sets (sets (sets (sets out 0 (n.kind ∷ n.debits ∷ n.credits ∷ n.operations ∷ [])) 4 (entries_bytes (entries_with l.payers l.debits)))
      second (entries_bytes (entries_with l.payees l.credits))) third (operations_bytes (operations_with l.codes l.registers l.values))
      ≡ sets out 0 (transaction_body (transaction_with n.kind l))
  unfolding transaction_body transaction_with
  transaction_stores out second third e f =
      let H = n.kind ∷ n.debits ∷ n.credits ∷ n.operations ∷ [] in
      let D = entries_bytes (entries_with l.payers l.debits) in
      let C = entries_bytes (entries_with l.payees l.credits) in
      let O = operations_bytes (operations_with l.codes l.registers l.values) in
      let d : length D ≡ 6 * length l.payers = simp (length_list 6 entry_bytes no_entry entry_long, length-tabulate) refl in
      let k : length C ≡ 6 * length l.payees = simp (length_list 6 entry_bytes no_entry entry_long, length-tabulate) refl in
      let first : second ≡ length (H ++ D) = omega arith in
      let dn : n.debits ≡ length (entries_with l.payers l.debits) = sym agree.payers_long ∙ sym (length-tabulate (length l.payers) (entry_with l.payers l.debits)) in
      let cn : n.credits ≡ length (entries_with l.payees l.credits) = sym agree.payees_long ∙ sym (length-tabulate (length l.payees) (entry_with l.payees l.credits)) in
      let on : n.operations ≡ length (operations_with l.codes l.registers l.values) = sym agree.codes_long
      ∙ sym (length-tabulate (length l.codes) (operation_with l.codes l.registers l.values)) in
      ap (λ (o : List ℕ). sets (sets o second C) third O) (sets_then H D out 0 4 refl)
      ∙ three_runs (H ++ D) C O out second third first (omega arith)
      ∙ rw (dn, cn, on) refl

pub sized_from : (kind : ℕ) (l : Lists) → ((k : ℕ) → get_or l.payers k 0 < 65536) → ((k : ℕ) → get_or l.debits k 0 < 4294967296) → ((k : ℕ) → get_or l.payees k 0 < 65536)
    → ((k : ℕ) → get_or l.credits k 0 < 4294967296) → ((k : ℕ) → get_or l.values k 0 < 4294967296) → TransactionFits (transaction_with kind l)
unfolding transaction_with
sized_from kind l p d q c v = record {
  payer = λ k h. rw (get_d_tabulate (length l.payers) (entry_with l.payers l.debits) k no_entry (rw length-tabulate at h)) (p k);
  debit = λ k h. rw (get_d_tabulate (length l.payers) (entry_with l.payers l.debits) k no_entry (rw length-tabulate at h)) (d k);
  payee = λ k h. rw (get_d_tabulate (length l.payees) (entry_with l.payees l.credits) k no_entry (rw length-tabulate at h)) (q k);
  credit = λ k h. rw (get_d_tabulate (length l.payees) (entry_with l.payees l.credits) k no_entry (rw length-tabulate at h)) (c k);
  value = λ k h. rw (get_d_tabulate (length l.codes) (operation_with l.codes l.registers l.values) k no_operation (rw length-tabulate at h)) (v k);
}

-- the reader's check of the body is the writer's verdict
module _ (s : Loading) (n : Counts) (l : Lists) (due : kind_due s ≡ 3) (agreed : lists_agree n l ≡ true) where
  pub body_judged : {b : List ℕ} {v : Checked} → TransactionFits (transaction_with n.kind l) → b ≡ transaction_body (transaction_with n.kind l)
      → v ≡ check_transaction b 0 s.a s.g → transaction_verdict s (lists_agree n l) (transaction_with n.kind l) ≡ v
  body_judged fits e q =
      transaction-judged s (lists_agree n l) (transaction_with n.kind l) due agreed
      ∙ sym (q ∙ ap (λ (x : List ℕ). check_transaction x 0 s.a s.g) e ∙ check_written (transaction_with n.kind l) 0 s.a s.g fits)
