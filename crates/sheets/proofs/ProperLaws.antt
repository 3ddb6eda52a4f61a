-- A sheet whose every test passes is proper, and what a proper sheet gives to the theorems.
-- Assumes nothing.
use Rattle.std.proofs.Common.{Ok, Err}
use Prim.Native.Nat.{◌<◌, ◌≤◌, ℕ}
use borrow.Author.Tests.{eq-eqb, eqb-false, eqb-true, ltb-true, not-true}
use lib.Dec.{eqb, ltb}
use lib.ListN.{get_or-eq_default, length}
use mathlib.Core.Bool.{Bool, true}
use mathlib.Core.Logic.{◌≢◌}
use mathlib.Core.Path.{◌≡◌, ap, refl}
use native.Mathlib.Decide.{dec_lt}
use native.Mathlib.Omega.{arith}
use Rattle.transactions.specs.Content.{Transaction, entry_of, no_transaction}
use Rattle.sheets.specs.Proper.{is_fine, is_proper}
use Rattle.sheets.specs.Sheet.{Sheet, tx_at, tx_count}
use Rattle.refusals.proofs.CheckedLaws.{held}
use Rattle.sums.proofs.TestLaws.{all_to_each, all_to_true, both_true, took}
use Rattle.sums.specs.Sum.{sum_to}
use Rattle.sums.specs.Test.{all_to}
use Rattle.transactions.proofs.BodyLaws.{judged_anywhere}
use Rattle.refusals.specs.Refusals.{Checked}
use Rattle.transactions.specs.Check.{accounts_once, balanced, counts_ok, distinct, entries_ok, entry_ok, in_range, judge_transaction, new_at}
use Rattle.frames.proofs.HeaderLaws.{header_bounds}
use Rattle.frames.specs.Balances.{balances_ok}
use Rattle.frames.specs.Header.{header_ok}

-- what the theorems use of a proper sheet: a proof tool, had from `is_proper` by `proper-sheet`
pub record ProperSheet (S : Sheet) : Type 0 where
  pub some : 0 < S.m
  pub small : S.m ≤ 16
  pub accounts : S.a ≤ 1024
  pub registers : S.g ≤ 64
  pub few : tx_count S ≤ 1024
  pub sized : length S.balances ≡ S.a
  pub apart : (x e e' : ℕ) → e < e' → e' < length (tx_at S x).debits → (entry_of (tx_at S x).debits e).account ≢ (entry_of (tx_at S x).debits e').account
  pub debited : (x e : ℕ) → e < length (tx_at S x).debits → (entry_of (tx_at S x).debits e).account < S.a
  pub credited : (x e : ℕ) → e < length (tx_at S x).credits → (entry_of (tx_at S x).credits e).account < S.a
  pub balanced : (x : ℕ) → sum_to (length (tx_at S x).debits) (λ e. (entry_of (tx_at S x).debits e).amount) ≡ sum_to (length (tx_at S x).credits) (λ e. (entry_of (tx_at S x).credits e).amount)

-- ---- one transaction

record TxProper (a : ℕ) (t : Transaction) : Type 0 where
  apart : (i i' : ℕ) → i < i' → i' < length t.debits → (entry_of t.debits i).account ≢ (entry_of t.debits i').account
  debited : (i : ℕ) → i < length t.debits → (entry_of t.debits i).account < a
  credited : (i : ℕ) → i < length t.credits → (entry_of t.credits i).account < a
  balanced : sum_to (length t.debits) (λ i. (entry_of t.debits i).amount) ≡ sum_to (length t.credits) (λ i. (entry_of t.credits i).amount)

fine_true : (c : Checked) → is_fine c ≡ true → c ≡ Ok tt
fine_true (Ok _) e = refl
fine_true (Err r) e = absurd (let z : ◌≡◌ {A = ℕ} 0 1 = cc in omega arith)

module _ (at a g : ℕ) (t : Transaction) (fine : judge_transaction at a g t ≡ Ok tt) where
  -- the three tests passed
  tests : (in_range a g t ≡ true) × (accounts_once t ≡ true) × (balanced t ≡ true)
  unfolding judge_transaction
  tests =
      let p = held (in_range a g t) _ fine in
      let q = held (accounts_once t) _ p.1 in
      (p.0, q.0, (held (balanced t) _ q.1).0)

  on_sheet : (n : ℕ) (k : ℕ → ℕ) → (f : ℕ → Bool) → ((i : ℕ) → f i ≡ true → k i < a) → all_to n f ≡ true → (i : ℕ) → i < n → k i < a
  on_sheet n k f h e i l = h i (all_to_true n f e i l)

  tx_facts : TxProper a t
  unfolding in_range entry_ok accounts_once balanced
  tx_facts =
      let lists = (both_true (counts_ok t.kind (length t.debits) (length t.credits) (length t.operations)) tests.0).1 in
      let debits = both_true (entries_ok a (length t.debits) (entry_of t.debits)) lists in
      let credits = both_true (entries_ok a (length t.credits) (entry_of t.credits)) debits.1 in
      let once = (both_true (distinct (length t.debits) (entry_of t.debits)) tests.1).0 in
      record {
        apart = λ i i' l l'. eqb-false (entry_of t.debits i).account (entry_of t.debits i').account
            (not-true _ (all_to_true i' _ (all_to_true (length t.debits) (new_at (entry_of t.debits)) once i' l') i l));
        debited = on_sheet _ (λ i. (entry_of t.debits i).account) _ (λ i e. ltb-true _ a (both_true (ltb (entry_of t.debits i).account a) e).0) debits.0;
        credited = on_sheet _ (λ i. (entry_of t.credits i).account) _ (λ i e. ltb-true _ a (both_true (ltb (entry_of t.credits i).account a) e).0) credits.0;
        balanced = eqb-true _ _ tests.2;
      }

none-proper : (a : ℕ) → TxProper a no_transaction
none-proper a = record { apart = λ i i' l l'. absurd (omega arith); debited = λ i l. absurd (omega arith); credited = λ i l. absurd (omega arith); balanced = refl }

-- ---- a sheet

module _ (S : Sheet) where
  abbrev fine_at : ℕ → Bool
  fine_at x = is_fine (judge_transaction 0 S.a S.g (tx_at S x))

  -- what loading shows of a sheet makes it proper
  pub proper_so : header_ok S.m S.a S.g (tx_count S) ≡ true → length S.balances ≡ S.a → balances_ok S.balances ≡ true
      → ((x : ℕ) → x < tx_count S → (at : ℕ) × (judge_transaction at S.a S.g (tx_at S x) ≡ Ok tt)) → is_proper S ≡ true
  unfolding is_proper
  proper_so h l b f =
      took _ h (took _ (eq-eqb _ _ l) (took _ b (all_to_each (tx_count S) fine_at (λ x u. let (at, e) = f x u in ap is_fine (judged_anywhere at 0 S.a S.g (tx_at S x) e)))))

  -- the tests of a proper sheet
  pub proper-tests : is_proper S ≡ true
      → (header_ok S.m S.a S.g (tx_count S) ≡ true) × (length S.balances ≡ S.a) × (balances_ok S.balances ≡ true) × (all_to (tx_count S) fine_at ≡ true)
  unfolding is_proper
  proper-tests e =
      let p = both_true (header_ok S.m S.a S.g (tx_count S)) e in
      let q = both_true (eqb (length S.balances) S.a) p.1 in
      let r = both_true (balances_ok S.balances) q.1 in
      (p.0, eqb-true _ _ q.0, r.0, r.1)

  pub proper-sheet : is_proper S ≡ true → ProperSheet S
  proper-sheet e =
      let ts = proper-tests e in
      let h = header_bounds S.m S.a S.g (tx_count S) ts.0 in
      record {
        some = h.some-instance;
        small = h.instances;
        accounts = h.accounts;
        registers = h.registers;
        few = h.transactions;
        sized = ts.1;
        apart = λ x. (tx ts.3 x).apart;
        debited = λ x. (tx ts.3 x).debited;
        credited = λ x. (tx ts.3 x).credited;
        balanced = λ x. (tx ts.3 x).balanced;
      }
    where
      tx : all_to (tx_count S) fine_at ≡ true → (x : ℕ) → TxProper S.a (tx_at S x)
      tx e x = elim (dec_lt x (tx_count S)) [
        | yes l ↦ tx_facts 0 S.a S.g (tx_at S x) (fine_true _ (all_to_true _ _ e x l))
        | no l ↦ rw (get_or-eq_default S.transactions no_transaction {n = x} (omega arith)) (none-proper S.a)
      ]
