-- What a body says does not hang on the bytes after it, and a fine body is short.
-- Assumes nothing.
use Rattle.std.proofs.Common.{Ok}
use Prim.Native.Nat.{◌*◌, ◌+◌, ◌<◌, ◌≤◌, ℕ}
use borrow.Author.Tests.{eqb-true, leb-true, ltb-false}
use lib.Dec.{eqb, leb, ltb}
use lib.ListN.{get_or-append, drop, get_or, length}
use lib.Seq.{get_or-drop}
use mathlib.Core.Bool.{not, true}
use mathlib.Core.List.{List, ◌++◌}
use mathlib.Core.Path.{◌∙◌, ◌≡◌, ap, refl, sym}
use native.Mathlib.Omega.{arith}
use Rattle.fields.proofs.NumberLaws.{le-drop, le-front}
use Rattle.fields.specs.Number.{le}
use Rattle.refusals.proofs.CheckedLaws.{held, not_refused}
use Rattle.sums.proofs.SeqLaws.{length-tabulate, tabulate_ext}
use Rattle.sums.proofs.TestLaws.{both_true, passed}
use Rattle.sums.specs.Seq.{tabulate}
use Rattle.transactions.specs.Body.{end_due, entry_in, operation_in, transaction_of}
use Rattle.transactions.specs.Check.{accounts_once, balanced, check_transaction, counts_ok, in_range, judge_transaction}
use Rattle.transactions.specs.Content.{Transaction}

number-front : (w : ℕ) (b post : List ℕ) (from i : ℕ) → from + i + w ≤ length b → le w (drop from (b ++ post)) i ≡ le w (drop from b) i
number-front w b post from i h = le-drop w (b ++ post) from i ∙ le-front w b post (from + i) h ∙ sym (le-drop w b from i)

byte_front : (b post : List ℕ) (from i : ℕ) → from + i < length b → get_or (drop from (b ++ post)) i 0 ≡ get_or (drop from b) i 0
byte_front b post from i h = get_or-drop from (b ++ post) i 0 ∙ get_or-append b post 0 (from + i) h ∙ sym (get_or-drop from b i 0)

entry-front : (b post : List ℕ) (from k : ℕ) → from + 6 * k + 6 ≤ length b → entry_in (drop from (b ++ post)) k ≡ entry_in (drop from b) k
entry-front b post from k h = rw (number-front 2 b post from (6 * k) (omega arith), number-front 4 b post from (6 * k + 2) (omega arith)) refl

operation_front : (b post : List ℕ) (from k : ℕ) → from + 6 * k + 6 ≤ length b → operation_in (drop from (b ++ post)) k ≡ operation_in (drop from b) k
operation_front b post from k h =
    rw (byte_front b post from (6 * k) (omega arith), byte_front b post from (6 * k + 1) (omega arith), number-front 4 b post from (6 * k + 2) (omega arith)) refl

-- what a transaction's body says does not hang on the bytes after it
abbrev says : ℕ → ℕ → ℕ → ℕ → List ℕ → Transaction
says kind d c o s = record {
  kind = kind;
  debits = tabulate d (entry_in (drop 4 s));
  credits = tabulate c (entry_in (drop (4 + 6 * d) s));
  operations = tabulate o (operation_in (drop (4 + 6 * d + 6 * c) s));
}

says-front : (kind d c o : ℕ) (b post : List ℕ) → length b ≡ 4 + 6 * d + 6 * c + 6 * o → says kind d c o (b ++ post) ≡ says kind d c o b
says-front kind d c o b post e =
    rw (
      tabulate_ext d (entry_in (drop 4 (b ++ post))) (entry_in (drop 4 b)) (λ k lt. entry-front b post 4 k (omega arith)),
      tabulate_ext c (entry_in (drop (4 + 6 * d) (b ++ post))) (entry_in (drop (4 + 6 * d) b)) (λ k lt. entry-front b post (4 + 6 * d) k (omega arith)),
      tabulate_ext o (operation_in (drop (4 + 6 * d + 6 * c) (b ++ post))) (operation_in (drop (4 + 6 * d + 6 * c) b)) (λ k lt. operation_front b post (4 + 6 * d + 6 * c) k (omega arith)),
    )
    refl

pub transaction-front : (b post : List ℕ) → 4 ≤ length b → length b ≡ end_due b → transaction_of (b ++ post) ≡ transaction_of b
unfolding transaction_of
transaction-front b post four e =
    rw (
      get_or-append b post 0 0 (omega arith),
      get_or-append b post 0 1 (omega arith),
      get_or-append b post 0 2 (omega arith),
      get_or-append b post 0 3 (omega arith),
    )
    (says-front (get_or b 0 0) (get_or b 1 0) (get_or b 2 0) (get_or b 3 0) b post e)

-- a transaction's body that is fine
pub record BodyFine (b : List ℕ) : Type 0 where
  pub four : 4 ≤ length b
  pub due : length b ≡ end_due b
  pub small : length b ≤ 100

pub counts_small : (kind d c o : ℕ) → counts_ok kind d c o ≡ true → (d ≤ 4) × (c ≤ 4) × (o ≤ 8)
unfolding counts_ok
counts_small kind d c o e =
    let p1 = both_true (leb kind 1) e in
    let p2 = both_true (leb 1 d) p1.1 in
    let p3 = both_true (leb d 4) p2.1 in
    let p4 = both_true (leb 1 c) p3.1 in
    let p5 = both_true (leb c 4) p4.1 in
    let p6 = both_true (leb o 8) p5.1 in
    (leb-true d 4 p3.0, leb-true c 4 p5.0, leb-true o 8 p6.0)

range_small : (a g : ℕ) (b : List ℕ) → in_range a g (transaction_of b) ≡ true → (get_or b 1 0 ≤ 4) × (get_or b 2 0 ≤ 4) × (get_or b 3 0 ≤ 8)
unfolding in_range transaction_of
range_small a g b e =
    let c = counts_small _ _ _ _ (both_true (counts_ok (transaction_of b).kind (length (transaction_of b).debits) (length (transaction_of b).credits) (length (transaction_of b).operations)) e).0 in
    rw (length-tabulate, length-tabulate, length-tabulate) at c

pub transaction_fine : (b : List ℕ) (at a g : ℕ) → check_transaction b at a g ≡ Ok tt → BodyFine b
unfolding check_transaction judge_transaction
transaction_fine b at a g e =
    let p = not_refused (ltb (length b) 4) _ e in
    let q = held (eqb (length b) (end_due b)) _ p.1 in
    let r = held (in_range a g (transaction_of b)) _ q.1 in
    let due = eqb-true (length b) (end_due b) q.0 in
    let few = range_small a g b r.0 in
    record { four = ltb-false (length b) 4 p.0; due = due; small = omega arith }

pub transaction_checked : (b : List ℕ) (at a g : ℕ) → check_transaction b at a g ≡ Ok tt → judge_transaction at a g (transaction_of b) ≡ Ok tt
unfolding check_transaction
transaction_checked b at a g e = (held (eqb (length b) (end_due b)) _ (not_refused (ltb (length b) 4) _ e).1).1

-- whether a transaction is fine does not hang on the place that a refusal would give
pub judged_anywhere : (p q a g : ℕ) (t : Transaction) → judge_transaction p a g t ≡ Ok tt → judge_transaction q a g t ≡ Ok tt
unfolding judge_transaction
judged_anywhere p q a g t e =
    let x = held (in_range a g t) _ e in
    let y = held (accounts_once t) _ x.1 in
    let z = held (balanced t) _ y.1 in
    passed _ (ap not x.0) (passed _ (ap not y.0) (passed _ (ap not z.0) refl))
