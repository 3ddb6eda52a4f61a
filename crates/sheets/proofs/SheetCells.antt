-- The sheet read from its cells: what each accessor's branch returns.
-- Assumes nothing.
use Prim.Native.Nat.{◌*◌, ◌<◌, ◌≤◌, min, ℕ}
use borrow.Author.Tests.{eq-eqb, eqb-true, ltb-false, ltb-true, ne_eqb}
use lib.Dec.{eqb, ltb}
use lib.ListN.{drop, get_or}
use mathlib.Core.Bool.{Bool, false, true}
use mathlib.Core.List.{List, []}
use mathlib.Core.Path.{◌∙◌, ◌≡◌, ap, ap₂, refl, sym}
use native.Mathlib.Omega.{arith}
use Rattle.transactions.specs.Content.{Entry, Transaction, no_entry, no_transaction}
use Rattle.transactions.specs.Body.{credits_from, entry_in, transaction_of}
use Rattle.sheets.specs.Inner.{entries_on, entry_on}
use Rattle.sheets.specs.Parts.{amount_on, is_contract}
use Rattle.sheets.specs.Sheet.{balance_in, sheet_from, sheet_in, slot, tx_at, tx_count}
use Rattle.sums.proofs.SeqLaws.{get_d_tabulate, length-tabulate, tabulate_each, tabulate-past}
use Rattle.sums.proofs.SumLaws.{sum_ext, sum_zero}
use Rattle.sums.proofs.TestLaws.{given_false, given_true}
use Rattle.sums.specs.Seq.{tabulate}
use Rattle.sums.specs.Sum.{sum_to}
use Rattle.sums.specs.Test.{given}
use Rattle.sheets.specs.declared.sheet.Sizes.{Sizes}
use Rattle.fields.specs.Number.{le}

-- ---- the sheet

module _ (b : List ℕ) (z : Sizes) where
  pub sheet-m : (sheet_in b z).m ≡ z.m
  unfolding sheet_in sheet_from
  sheet-m = refl

  pub sheet-a : (sheet_in b z).a ≡ z.a
  unfolding sheet_in sheet_from
  sheet-a = refl

  pub sheet-g : (sheet_in b z).g ≡ z.g
  unfolding sheet_in sheet_from
  sheet-g = refl

  pub sheet-count : tx_count (sheet_in b z) ≡ z.t
  unfolding sheet_in sheet_from
  sheet-count = length-tabulate z.t _

  pub tx_in : (x : ℕ) → x < z.t → tx_at (sheet_in b z) x ≡ transaction_of (slot b z x)
  unfolding sheet_in sheet_from
  tx_in x h = get_d_tabulate z.t _ x no_transaction h

  pub tx-past : (x : ℕ) → z.t ≤ x → tx_at (sheet_in b z) x ≡ no_transaction
  unfolding sheet_in sheet_from
  tx-past x h = tabulate-past z.t _ x no_transaction h

  pub balance-past : (k : ℕ) → z.a ≤ k → 0 ≡ get_or (sheet_in b z).balances k 0
  unfolding sheet_in sheet_from
  balance-past k h = sym (tabulate-past z.a (balance_in b) k 0 h)

  pub balance-in : (k v r : ℕ) → k < z.a → v ≡ le 8 b (8 * k) → r ≡ min v 1099511627776 → r ≡ get_or (sheet_in b z).balances k 0
  unfolding sheet_in sheet_from
  balance-in k v r h e q = q ∙ ap (λ (w : ℕ). min w 1099511627776) e ∙ sym (get_d_tabulate z.a (balance_in b) k 0 h)

  module _ (x : ℕ) (body : List ℕ) (e : body ≡ slot b z x) where
    -- what its slot says is transaction x
    pub tx-from : x < z.t → transaction_of body ≡ tx_at (sheet_in b z) x
    tx-from h = ap transaction_of e ∙ sym (tx_in x h)

    pub kind-in : x < z.t → (r : ℕ) → r ≡ get_or body 0 0 → r ≡ (tx_at (sheet_in b z) x).kind
    unfolding transaction_of
    kind-in h r q = q ∙ ap (λ (t : Transaction). t.kind) (tx-from h)

  pub kind-past : (x : ℕ) → z.t ≤ x → 0 ≡ (tx_at (sheet_in b z) x).kind
  kind-past x h = sym (ap (λ (t : Transaction). t.kind) (tx-past x h))

  pub contract_in : (x k : ℕ) → k ≡ (tx_at (sheet_in b z) x).kind → eqb k 1 ≡ is_contract (sheet_in b z) x
  unfolding is_contract
  contract_in x k e = ap (λ (n : ℕ). eqb n 1) e

  -- only a transaction of the sheet is a contract
  pub contract-below : (x : ℕ) → is_contract (sheet_in b z) x ≡ true → x < z.t
  unfolding is_contract
  contract-below x e = go (ltb x z.t) refl
    where
      go : (u : Bool) → ltb x z.t ≡ u → x < z.t
      go true q = ltb-true x z.t q
      go false q =
          let k : 0 ≡ (tx_at (sheet_in b z) x).kind = kind-past x (ltb-false x z.t q) in
          absurd (omega (arith, eqb-true (tx_at (sheet_in b z) x).kind 1 e))

-- ---- entries on an account

pub entry_hit : (s : List ℕ) (i k c v : ℕ) → c ≡ (entry_in s i).account → c ≡ k → v ≡ (entry_in s i).amount → v ≡ entry_on (entry_in s) k i
unfolding entry_on
entry_hit s i k c v e h q = q ∙ sym (given_true _ _ (eq-eqb (entry_in s i).account k (sym e ∙ h)))

pub entry_miss : (s : List ℕ) (i k c : ℕ) → c ≡ (entry_in s i).account → (c ≡ k → ⊥) → 0 ≡ entry_on (entry_in s) k i
unfolding entry_on
entry_miss s i k c e h = sym (given_false _ _ (ne_eqb (entry_in s i).account k (λ q. h (e ∙ q))))

pub amount_tab : (n : ℕ) (f : ℕ → Entry) (k : ℕ) → amount_on (tabulate n f) k ≡ entries_on f n k
unfolding amount_on entries_on entry_on
amount_tab n f k = tabulate_each no_entry n f sum_to sum_ext (λ e. given (eqb e.account k) e.amount)

pub amount-none : (k : ℕ) → 0 ≡ amount_on [] k
unfolding amount_on
amount-none k = sym (sum_zero _)

module _ (b : List ℕ) (z : Sizes) (x k : ℕ) where
  pub debit-past : z.t ≤ x → 0 ≡ amount_on (tx_at (sheet_in b z) x).debits k
  debit-past h = amount-none k ∙ sym (ap (λ (t : Transaction). amount_on t.debits k) (tx-past b z x h))

  pub credit-past : z.t ≤ x → 0 ≡ amount_on (tx_at (sheet_in b z) x).credits k
  credit-past h = amount-none k ∙ sym (ap (λ (t : Transaction). amount_on t.credits k) (tx-past b z x h))

  module _ (body list : List ℕ) (n r : ℕ) (h : x < z.t) (e : body ≡ slot b z x) (q : r ≡ entries_on (entry_in list) n k) where
    pub debit-in : list ≡ drop 4 body → n ≡ get_or body 1 0 → r ≡ amount_on (tx_at (sheet_in b z) x).debits k
    unfolding transaction_of
    debit-in el en =
        q ∙ ap₂ (λ (l : List ℕ) (c : ℕ). entries_on (entry_in l) c k) el en
        ∙ sym (amount_tab _ _ k) ∙ ap (λ (t : Transaction). amount_on t.debits k) (tx-from b z x body e h)

    pub credit-in : list ≡ drop (credits_from body) body → n ≡ get_or body 2 0 → r ≡ amount_on (tx_at (sheet_in b z) x).credits k
    unfolding transaction_of
    credit-in el en =
        q ∙ ap₂ (λ (l : List ℕ) (c : ℕ). entries_on (entry_in l) c k) el en
        ∙ sym (amount_tab _ _ k) ∙ ap (λ (t : Transaction). amount_on t.credits k) (tx-from b z x body e h)
