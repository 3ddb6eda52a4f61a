-- A transaction's body, written and read back; and read and written again.
-- Assumes nothing.
use Rattle.std.proofs.Common.{Ok}
use Prim.Native.Nat.{◌*◌, ◌+◌, ◌<◌, ◌≤◌, ℕ}
use lib.ListN.{drop, length, length-drop, take}
use lib.Seq.{drop_at, drop-drop, get_or-drop, take_all}
use mathlib.Core.List.{List, [], ◌++◌, ◌∷◌, append_assoc, append-nil}
use mathlib.Core.Path.{◌∙◌, ◌≡◌, ap, refl, sym}
use native.Mathlib.Nat.{add-zero, not-suc-le-zero}
use native.Mathlib.Omega.{arith}
use Rattle.encoding.proofs.Lengths.{entry_long, length-transaction, operation_long}
use Rattle.encoding.specs.Body.{entries_bytes, entry_bytes, operation_bytes, operations_bytes, transaction_body}
use Rattle.encoding.specs.Fits.{TransactionFits}
use Rattle.fields.proofs.NumberLaws.{join, le-drop, le_of_bytes, le_step, length-le_bytes, piece}
use Rattle.fields.proofs.RowLaws.{length_list, list_back, list-forth}
use Rattle.fields.specs.Number.{AreBytes, le, le_bytes}
use Rattle.refusals.proofs.CheckedLaws.{held}
use Rattle.sums.proofs.SeqLaws.{length-tabulate}
use Rattle.sums.proofs.TestLaws.{both_true}
use Rattle.sums.specs.Seq.{tabulate}
use Rattle.transactions.proofs.BodyLaws.{counts_small}
use Rattle.transactions.proofs.CheckLaws.{check-judge}
use Rattle.transactions.specs.Body.{end_due, entry_in, operation_in, transaction_of}
use Rattle.transactions.specs.Check.{check_transaction, counts_ok, in_range, judge_transaction}
use Rattle.transactions.specs.Content.{Entry, Operation, Transaction, entry_of, no_entry, no_operation, operation_of}

-- an element of some bytes is the first of those from it on
entry-further : (s : List ℕ) (k : ℕ) → entry_in s k ≡ entry_in (drop (6 * k) s) 0
entry-further s k = rw (le-drop 2 s (6 * k) 0, le-drop 4 s (6 * k) 2, add-zero) refl

operation_further : (s : List ℕ) (k : ℕ) → operation_in s k ≡ operation_in (drop (6 * k) s) 0
operation_further s k = rw (get_or-drop (6 * k) s 0 0, get_or-drop (6 * k) s 1 0, le-drop 4 s (6 * k) 2, add-zero) refl

entry-back : (e : Entry) (rest : List ℕ) → e.account < 65536 → e.amount < 4294967296 → entry_in (entry_bytes e ++ rest) 0 ≡ e
entry-back e rest h g =
    let one : le 2 (le_bytes 2 e.account ++ (le_bytes 4 e.amount ++ rest)) 0 ≡ e.account = le_of_bytes 2 e.account _ h in
    let two : le 4 (le_bytes 2 e.account ++ (le_bytes 4 e.amount ++ rest)) 2 ≡ e.amount =
    le_step 4 (le_bytes 2 e.account) (le_bytes 4 e.amount ++ rest) 2 0 (length-le_bytes 2 e.account) ∙ le_of_bytes 4 e.amount rest g in
    rw (append_assoc (le_bytes 2 e.account) (le_bytes 4 e.amount) rest, one, two) refl

operation_back : (o : Operation) (rest : List ℕ) → o.value < 4294967296 → operation_in (operation_bytes o ++ rest) 0 ≡ o
operation_back o rest g =
    let value : le 4 (o.code ∷ o.register ∷ (le_bytes 4 o.value ++ rest)) 2 ≡ o.value =
    le_step 4 (o.code ∷ o.register ∷ []) (le_bytes 4 o.value ++ rest) 2 0 refl ∙ le_of_bytes 4 o.value rest g in
    rw value refl

entry-forth : (s : List ℕ) → AreBytes s → 6 ≤ length s → entry_bytes (entry_in s 0) ≡ take 6 s
entry-forth s b h = rw (piece 2 0 s b (omega arith), piece 4 2 s b (omega arith)) (join 2 4 0 s)

operation_forth : (s : List ℕ) → AreBytes s → 6 ≤ length s → operation_bytes (operation_in s 0) ≡ take 6 s
operation_forth [] b h = absurd (not-suc-le-zero h)
operation_forth (x ∷ []) b h = absurd (none h)
  where
    none : 6 ≤ 1 → ⊥
    none h = omega arith
operation_forth (x ∷ y ∷ s) b h = ap (λ (r : List ℕ). x ∷ y ∷ r) (piece 4 2 (x ∷ y ∷ s) b h)

entries-back : (l : List Entry) (post : List ℕ) → ((k : ℕ) → k < length l → (entry_of l k).account < 65536) → ((k : ℕ) → k < length l → (entry_of l k).amount < 4294967296)
    → tabulate (length l) (entry_in (entries_bytes l ++ post)) ≡ l
entries-back l post h g = list_back 6 entry_bytes no_entry entry_long entry_in entry-further l post (λ k rest lt. entry-back (entry_of l k) rest (h k lt) (g k lt))

-- reading what was written, whatever stands after it
module _ (t : Transaction) (post : List ℕ) (sized : TransactionFits t) where
  abbrev B : List ℕ
  B = transaction_body t ++ post

  after-counts : drop 4 B ≡ entries_bytes t.debits ++ (entries_bytes t.credits ++ (operations_bytes t.operations ++ post))
  unfolding transaction_body
  after-counts =
      append_assoc (entries_bytes t.debits) (entries_bytes t.credits ++ operations_bytes t.operations) post
      ∙ ap (λ (r : List ℕ). entries_bytes t.debits ++ r) (append_assoc (entries_bytes t.credits) (operations_bytes t.operations) post)

  after-debits : drop (4 + 6 * length t.debits) B ≡ entries_bytes t.credits ++ (operations_bytes t.operations ++ post)
  after-debits =
      sym (drop-drop (6 * length t.debits) 4 B)
      ∙ ap (drop (6 * length t.debits)) after-counts
      ∙ drop_at (entries_bytes t.debits) _ (6 * length t.debits) (length_list 6 entry_bytes no_entry entry_long t.debits)

  after-credits : drop (4 + 6 * length t.debits + 6 * length t.credits) B ≡ operations_bytes t.operations ++ post
  after-credits =
      sym (drop-drop (6 * length t.credits) (4 + 6 * length t.debits) B)
      ∙ ap (drop (6 * length t.credits)) after-debits
      ∙ drop_at (entries_bytes t.credits) _ (6 * length t.credits) (length_list 6 entry_bytes no_entry entry_long t.credits)

  pub transaction-back : transaction_of (transaction_body t ++ post) ≡ t
  unfolding transaction_of transaction_body
  transaction-back =
      let d = ap (λ (r : List ℕ). tabulate (length t.debits) (entry_in r)) after-counts ∙ entries-back t.debits _ sized.payer sized.debit in
      let c = ap (λ (r : List ℕ). tabulate (length t.credits) (entry_in r)) after-debits ∙ entries-back t.credits _ sized.payee sized.credit in
      let o = ap (λ (r : List ℕ). tabulate (length t.operations) (operation_in r)) after-credits
      ∙ list_back 6 operation_bytes no_operation operation_long operation_in operation_further t.operations post
      (λ k rest lt. operation_back (operation_of t.operations k) rest (sized.value k lt)) in
      same d c o
    where
      same : {d d' c c' : List Entry} {o o' : List Operation} → d ≡ d' → c ≡ c' → o ≡ o'
          → ◌≡◌ {A = Transaction} (record { kind = t.kind; debits = d; credits = c; operations = o }) (record { kind = t.kind; debits = d'; credits = c'; operations = o' })
      same p q r = rw (p, q, r) refl

-- writing what was read
lists-forth : (s : List ℕ) (d c o : ℕ) → AreBytes s → length s ≡ 4 + 6 * d + 6 * c + 6 * o
    → entries_bytes (tabulate d (entry_in (drop 4 s))) ++ (entries_bytes (tabulate c (entry_in (drop (4 + 6 * d) s))) ++ operations_bytes (tabulate o (operation_in (drop (4 + 6 * d + 6 * c) s))))
    ≡ drop 4 s
lists-forth s d c o b long =
    rw (
      list-forth 6 entry_bytes no_entry entry_long entry_in entry-further entry-forth d 4 s b (omega arith),
      list-forth 6 entry_bytes no_entry entry_long entry_in entry-further entry-forth c (4 + 6 * d) s b (omega arith),
      list-forth 6 operation_bytes no_operation operation_long operation_in operation_further operation_forth o (4 + 6 * d + 6 * c) s b (omega arith),
    )
    (ap (λ (r : List ℕ). take (6 * d) (drop 4 s) ++ r) (join (6 * c) (6 * o) (4 + 6 * d) s)
    ∙ join (6 * d) (6 * c + 6 * o) 4 s
    ∙ take_all (6 * d + (6 * c + 6 * o)) (drop 4 s) (simp length-drop (omega arith)))

pub transaction-forth : (s : List ℕ) → AreBytes s → 4 ≤ length s → length s ≡ end_due s → transaction_body (transaction_of s) ≡ s
unfolding transaction_of transaction_body
transaction-forth [] b h e = absurd (not-suc-le-zero h)
transaction-forth (w ∷ []) b h e = absurd (none h)
  where
    none : 4 ≤ 1 → ⊥
    none h = omega arith
transaction-forth (w ∷ x ∷ []) b h e = absurd (none h)
  where
    none : 4 ≤ 2 → ⊥
    none h = omega arith
transaction-forth (w ∷ x ∷ y ∷ []) b h e = absurd (none h)
  where
    none : 4 ≤ 3 → ⊥
    none h = omega arith
transaction-forth (w ∷ x ∷ y ∷ z ∷ s) b h e =
    rw (length-tabulate, length-tabulate, length-tabulate)
    (ap (λ (r : List ℕ). w ∷ x ∷ y ∷ z ∷ r) (lists-forth (w ∷ x ∷ y ∷ z ∷ s) x y z b e))

-- a fine transaction is short
pub short-transaction : (a g : ℕ) (t : Transaction) → judge_transaction 0 a g t ≡ Ok tt → length (transaction_body t) ≤ 8192
unfolding judge_transaction in_range
short-transaction a g t e =
    let r = held (in_range a g t) _ e in
    let c = counts_small _ _ _ _ (both_true (counts_ok t.kind (length t.debits) (length t.credits) (length t.operations)) r.0).0 in
    omega (arith, length-transaction t)

-- the reader's check of a written body is the verdict on the transaction
due_length : (t : Transaction) → length (transaction_body t) ≡ end_due (transaction_body t)
unfolding transaction_body
due_length t = length-transaction t

pub check_written : (t : Transaction) (at a g : ℕ) → TransactionFits t → check_transaction (transaction_body t) at a g ≡ judge_transaction at a g t
check_written t at a g sized =
    let n = length-transaction t in
    check-judge (transaction_body t) at a g (omega arith) (due_length t)
    ∙ ap (judge_transaction at a g) (ap transaction_of (sym (append-nil (transaction_body t))) ∙ transaction-back t [] sized)
