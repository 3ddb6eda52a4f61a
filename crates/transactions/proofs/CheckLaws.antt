-- The check of a transaction in the terms of the code, and which case of it holds.
-- Assumes nothing.
use Rattle.std.proofs.Common.{Ok, Err}
use Prim.Native.Nat.{◌<◌, ◌≤◌, ℕ}
use borrow.Author.Tests.{eq-eqb, le-ltb, lt-ltb, ne_eqb}
use lib.Dec.{eqb}
use lib.ListN.{drop, get_or, length}
use mathlib.Core.Bool.{false, not, true}
use mathlib.Core.List.{List}
use mathlib.Core.Path.{◌∙◌, ◌≡◌, ap, ap₂, refl}
use native.Mathlib.Omega.{arith}
use Rattle.sums.proofs.SeqLaws.{length-tabulate, tabulate_each}
use Rattle.sums.proofs.SumLaws.{sum_ext}
use Rattle.sums.proofs.TestLaws.{all_to_ext, passed, took}
use Rattle.sums.specs.Test.{all_to, both}
use Rattle.transactions.specs.Body.{credits_from, end_due, entry_in, operation_in, operations_from, transaction_of}
use Rattle.transactions.specs.Check.{accounts_once, amounts, balanced, check_transaction, counts_ok, distinct, entries_ok, entry_ok, in_range, judge_transaction, operation_ok, operations_ok}
use Rattle.transactions.specs.Content.{Entry, entry_of, no_entry, no_operation}
use Rattle.refusals.specs.declared.Refusal.TheVariants.{AccountTwice, BodyLength, OutOfRange, SumsDiffer}

pub distinct_ext : (n : ℕ) (e f : ℕ → Entry) → ((k : ℕ) → k < n → e k ≡ f k) → distinct n e ≡ distinct n f
distinct_ext n e f h =
    all_to_ext n _ _ (λ k l. all_to_ext k _ _ (λ j u. ap₂ (λ (x y : Entry). not (eqb x.account y.account)) (h j (omega arith)) (h k l)))

pub amounts_ext : (n : ℕ) (e f : ℕ → Entry) → ((k : ℕ) → k < n → e k ≡ f k) → amounts n e ≡ amounts n f
amounts_ext n e f h = sum_ext n _ _ (λ k l. ap (λ (x : Entry). x.amount) (h k l))

-- the tests in the terms of the code, which reads counts and elements and makes no list
module _ (b : List ℕ) where
  pub range_same : (a g : ℕ)
      → in_range a g (transaction_of b)
      ≡ both (counts_ok (get_or b 0 0) (get_or b 1 0) (get_or b 2 0) (get_or b 3 0))
      (both (entries_ok a (get_or b 1 0) (entry_in (drop 4 b)))
      (both (entries_ok a (get_or b 2 0) (entry_in (drop (credits_from b) b))) (operations_ok g (get_or b 3 0) (operation_in (drop (operations_from b) b)))))
  unfolding in_range transaction_of
  range_same a g =
      rw (
        tabulate_each no_entry (get_or b 1 0) (entry_in (drop 4 b)) all_to all_to_ext (entry_ok a),
        tabulate_each no_entry (get_or b 2 0) (entry_in (drop (credits_from b) b)) all_to all_to_ext (entry_ok a),
        tabulate_each no_operation (get_or b 3 0) (operation_in (drop (operations_from b) b)) all_to all_to_ext (operation_ok g),
        length-tabulate (get_or b 1 0) (entry_in (drop 4 b)),
        length-tabulate (get_or b 2 0) (entry_in (drop (credits_from b) b)),
        length-tabulate (get_or b 3 0) (operation_in (drop (operations_from b) b)),
      )
      refl

  -- what is found of the debits, tested against what is found of the credits: refusals 6 and 7
  pub sides_same : {A B : Type 0} (test : A → A → B) (find : ℕ → (ℕ → Entry) → A) → ((n : ℕ) (e f : ℕ → Entry) → ((k : ℕ) → k < n → e k ≡ f k) → find n e ≡ find n f)
      → test (find (length (transaction_of b).debits) (entry_of (transaction_of b).debits)) (find (length (transaction_of b).credits) (entry_of (transaction_of b).credits))
      ≡ test (find (get_or b 1 0) (entry_in (drop 4 b))) (find (get_or b 2 0) (entry_in (drop (credits_from b) b)))
  unfolding transaction_of
  sides_same test find same = ap₂ test (tabulate_each no_entry _ (entry_in (drop 4 b)) find same (λ x. x)) (tabulate_each no_entry _ (entry_in (drop (credits_from b) b)) find same (λ x. x))

-- which case of the check holds
module _ (b : List ℕ) (at a g : ℕ) where
  pub check_short : length b < 4 → check_transaction b at a g ≡ Err (BodyLength at)
  unfolding check_transaction
  check_short h = took _ (lt-ltb _ _ h) refl

  module _ (four : 4 ≤ length b) where
    pub check-length : (length b ≡ end_due b → ⊥) → check_transaction b at a g ≡ Err (BodyLength at)
    unfolding check_transaction
    check-length h = passed _ (le-ltb _ _ four) (took _ (ap not (ne_eqb _ _ h)) refl)

    module _ (due : length b ≡ end_due b) where
      pub check-judge : check_transaction b at a g ≡ judge_transaction at a g (transaction_of b)
      unfolding check_transaction
      check-judge = passed _ (le-ltb _ _ four) (passed _ (ap not (eq-eqb _ _ due)) refl)

      pub check-range : in_range a g (transaction_of b) ≡ false → check_transaction b at a g ≡ Err (OutOfRange at)
      unfolding judge_transaction
      check-range h = check-judge ∙ took _ (ap not h) refl

      module _ (range : in_range a g (transaction_of b) ≡ true) where
        pub check-twice : accounts_once (transaction_of b) ≡ false → check_transaction b at a g ≡ Err (AccountTwice at)
        unfolding judge_transaction
        check-twice h = check-judge ∙ passed _ (ap not range) (took _ (ap not h) refl)

        module _ (once : accounts_once (transaction_of b) ≡ true) where
          pub check-sums : balanced (transaction_of b) ≡ false → check_transaction b at a g ≡ Err (SumsDiffer at)
          unfolding judge_transaction
          check-sums h = check-judge ∙ passed _ (ap not range) (passed _ (ap not once) (took _ (ap not h) refl))

          pub check-fine : balanced (transaction_of b) ≡ true → check_transaction b at a g ≡ Ok tt
          unfolding judge_transaction
          check-fine h = check-judge ∙ passed _ (ap not range) (passed _ (ap not once) (passed _ (ap not h) refl))
