-- Amounts and outcomes, from the cells.
-- Assumes nothing.
use Prim.Native.Nat.{◌*◌, ◌+◌, ◌-◌, ◌<◌, ◌≤◌, ℕ}
use borrow.Author.Tests.{eq-eqb, ne_eqb}
use lib.Dec.{eqb, leb}
use lib.ListN.{drop, get_or, length}
use mathlib.Core.Bool.{Bool, false, not, true}
use mathlib.Core.List.{List, []}
use mathlib.Core.Path.{◌∙◌, ◌≡◌, ap, ap₂, fun_ext, refl, sym}
use native.Mathlib.Omega.{arith}
use Rattle.std.specs.Int.{from_bool}
use Rattle.escrow.specs.Amounts.{covered_by, credited, debit_at, free, free_by, held, held_by, is_paid, part_good, reserved}
use Rattle.escrow.specs.Cells.{free_in, good_in, held_in}
use Rattle.escrow.specs.Inner.{debit_good, debits_out, out_at, takes}
use Rattle.transactions.specs.Content.{Entry, Transaction, entry_of, no_entry}
use Rattle.transactions.specs.Body.{entry_in, transaction_of}
use Rattle.ordering.specs.Table.{count_in}
use Rattle.settlement.specs.Cells.{rows_in}
use Rattle.settlement.specs.Books.{Status}
use Rattle.settlement.specs.Settlement.{status}
use Rattle.settlement.specs.Tables.{status_in, status_of}
use Rattle.settlement.specs.View.{Rows}
use Rattle.sheets.proofs.SheetCells.{sheet-count, tx-from, tx-past}
use Rattle.sheets.specs.Parts.{amount_on, home}
use Rattle.sheets.specs.Sheet.{Sheet, balance, sheet_in, slot, tx_at, tx_count}
use Rattle.sums.proofs.LoopLaws.{all_to-none}
use Rattle.sums.proofs.SeqLaws.{tabulate_each}
use Rattle.sums.proofs.TestLaws.{all_to_ext, given_false, given_true, pick-false, pick_true}
use Rattle.sums.specs.Sum.{sum_to}
use Rattle.sums.specs.Test.{all_to, flip, given, pick}
use Rattle.sheets.specs.declared.sheet.Sizes.{Sizes}

-- what a citation takes
module _ (b : List ℕ) (z : Sizes) (ranks cites good table : List ℕ) (all : Bool) (h k p : ℕ) (g : Bool) (eg : g ≡ eqb (get_or good (h * 4096 + p) 0) 1) where
  abbrev rows : Rows
  rows = rows_in ranks cites good

  pub out_failed : g ≡ false → 0 ≡ out_at (sheet_in b z) rows (status_in z table) all h k p
  unfolding out_at rows_in
  out_failed f = sym (given_false _ _ (sym eg ∙ f))

  module _ (t : g ≡ true) (x n : ℕ) (ex : x ≡ get_or cites (h * 4096 + p) 65535) (en : status_of n ≡ status_in z table x) (u : Bool) (eu : u ≡ takes all (status_of n)) where
    test : takes all (status_in z table (get_or cites (h * 4096 + p) 65535)) ≡ u
    test = sym (eu ∙ ap (takes all) (en ∙ ap (status_in z table) ex))

    pub out-passed : u ≡ false → 0 ≡ out_at (sheet_in b z) rows (status_in z table) all h k p
    unfolding out_at rows_in
    out-passed f = sym (given_true _ _ (sym eg ∙ t) ∙ given_false _ _ (test ∙ f))

    pub out-taken : u ≡ true → (r : ℕ) → r ≡ amount_on (tx_at (sheet_in b z) x).debits k → r ≡ out_at (sheet_in b z) rows (status_in z table) all h k p
    unfolding out_at rows_in
    out-taken f r q = q ∙ ap (λ (y : ℕ). amount_on (tx_at (sheet_in b z) y).debits k) ex ∙ sym (given_true _ _ (sym eg ∙ t) ∙ given_true _ _ (test ∙ f))

-- ---- free and held

module _ (S : Sheet) (R : Rows) (st : ℕ → Status) (k : ℕ) where
  reserved_is : (n : ℕ) → debits_out S R st true (home S k) k n ≡ reserved S R st n k
  unfolding debits_out out_at reserved debit_at takes pick
  reserved_is n = refl

  held_is : (n : ℕ) → debits_out S R st false (home S k) k n ≡ held_by S R st n k
  unfolding debits_out out_at held_by debit_at takes pick
  held_is n = refl

module _ (b : List ℕ) (z : Sizes) (cites good view table : List ℕ) (k h n : ℕ) (eh : h ≡ home (sheet_in b z) k) (en : n ≡ count_in view h) where
  there : n ≡ count_in view (home (sheet_in b z) k)
  there = en ∙ ap (count_in view) eh

  pub held-some : (d : ℕ) → d ≡ debits_out (sheet_in b z) (rows_in [] cites good) (status_in z table) false h k n → d ≡ held_in b z cites good view table k
  unfolding held_in
  held-some d e =
      e ∙ ap₂ (λ (i c : ℕ). debits_out (sheet_in b z) (rows_in [] cites good) (status_in z table) false i k c) eh there
      ∙ held_is (sheet_in b z) (rows_in [] cites good) (status_in z table) k (count_in view (home (sheet_in b z) k))

  pub free-some : (s c d : ℕ) → s ≡ balance (sheet_in b z) k → c ≡ credited (sheet_in b z) (status_in z table) k
      → d ≡ debits_out (sheet_in b z) (rows_in [] cites good) (status_in z table) true h k n → (r : ℕ) → r ≡ s + c - d → r ≡ free_in b z cites good view table k
  unfolding free_in free_by
  free-some s c d e0 ec ed r e =
      e ∙ ap₂ ◌-◌ (ap₂ ◌+◌ e0 ec)
      (ed ∙ ap₂ (λ (i m : ℕ). debits_out (sheet_in b z) (rows_in [] cites good) (status_in z table) true i k m) eh there
      ∙ reserved_is (sheet_in b z) (rows_in [] cites good) (status_in z table) k (count_in view (home (sheet_in b z) k)))

-- ---- outcomes

module _ (b : List ℕ) (z : Sizes) (f : ℕ → ℕ) (list : List ℕ) (j i k h : ℕ) (ek : k ≡ (entry_in list i).account) (eh : h ≡ home (sheet_in b z) k) where
  home_here : home (sheet_in b z) (entry_in list i).account ≡ h
  home_here = ap (home (sheet_in b z)) (sym ek) ∙ sym eh

  pub good_elsewhere : (h ≡ j → ⊥) → true ≡ debit_good (sheet_in b z) f (entry_in list) j i
  unfolding debit_good
  good_elsewhere n = sym (pick-false _ _ _ (ne_eqb _ _ (λ q. n (sym home_here ∙ q))))

  pub good_here : h ≡ j → (w u : ℕ) → w ≡ (entry_in list i).amount → u ≡ f k → leb w u ≡ debit_good (sheet_in b z) f (entry_in list) j i
  unfolding debit_good
  good_here q w u ew eu = ap₂ leb ew (eu ∙ ap f ek) ∙ sym (pick_true _ _ _ (eq-eqb _ _ (home_here ∙ q)))

module _ (b : List ℕ) (z : Sizes) (f : ℕ → ℕ) (j x : ℕ) where
  part_of : Transaction → Bool
  part_of t = all_to (length t.debits) (λ i. pick (eqb (home (sheet_in b z) (entry_of t.debits i).account) j) (leb (entry_of t.debits i).amount (f (entry_of t.debits i).account)) true)

  covered_none : z.t ≤ x → true ≡ covered_by (sheet_in b z) f j x
  unfolding covered_by part_of
  covered_none h = sym (ap part_of (tx-past b z x h) ∙ all_to-none _)

  covered-judged : (body list : List ℕ) (n : ℕ) (r : Bool) → x < z.t → body ≡ slot b z x → r ≡ all_to n (debit_good (sheet_in b z) f (entry_in list) j)
      → list ≡ drop 4 body → n ≡ get_or body 1 0 → r ≡ covered_by (sheet_in b z) f j x
  unfolding covered_by transaction_of part_of debit_good
  covered-judged body list n r h e q el en =
      q ∙ ap₂ (λ (l : List ℕ) (c : ℕ). all_to c (debit_good (sheet_in b z) f (entry_in l) j)) el en
      ∙ sym (tabulate_each no_entry _ _ all_to all_to_ext (λ (a : Entry). pick (eqb (home (sheet_in b z) a.account) j) (leb a.amount (f a.account)) true))
      ∙ ap part_of (tx-from b z x body e h)

module _ (b : List ℕ) (z : Sizes) (cites good view table : List ℕ) (j x : ℕ) where
  pub part_none : z.t ≤ x → true ≡ good_in b z cites good view table j x
  unfolding good_in
  part_none h = covered_none b z _ j x h

  pub part_judged : (body list : List ℕ) (n : ℕ) (r : Bool) → x < z.t → body ≡ slot b z x → r ≡ all_to n (debit_good (sheet_in b z) (free_in b z cites good view table) (entry_in list) j)
      → list ≡ drop 4 body → n ≡ get_or body 1 0 → r ≡ good_in b z cites good view table j x
  unfolding good_in
  part_judged = covered-judged b z (free_in b z cites good view table) j x

-- ---- where the table holds the view's statuses, its amounts are the rules'

module _ (b : List ℕ) (z : Sizes) (ranks cites good view table : List ℕ)
    (es : status_in z table ≡ status (sheet_in b z) (rows_in ranks cites good) (count_in view)) where
  pub free-in : (k : ℕ) → free_in b z cites good view table k ≡ free (sheet_in b z) (rows_in ranks cites good) (count_in view) k
  unfolding free_in free free_by reserved debit_at rows_in
  free-in k = ap (λ (st : ℕ → Status). free_by (sheet_in b z) (rows_in ranks cites good) st (count_in view (home (sheet_in b z) k)) k) es

  pub held-in : (k : ℕ) → held_in b z cites good view table k ≡ held (sheet_in b z) (rows_in ranks cites good) (count_in view) k
  unfolding held_in held held_by debit_at rows_in
  held-in k = ap (λ (st : ℕ → Status). held_by (sheet_in b z) (rows_in ranks cites good) st (count_in view (home (sheet_in b z) k)) k) es

  pub good-in : (j x : ℕ) → good_in b z cites good view table j x ≡ part_good (sheet_in b z) (rows_in ranks cites good) (count_in view) j x
  unfolding good_in part_good
  good-in j x = ap (λ (f : ℕ → ℕ). covered_by (sheet_in b z) f j x) (fun_ext free-in)

-- ---- credits

pub credits_end : (b : List ℕ) (z : Sizes) (st : ℕ → Status) (k n x : ℕ) → x ≤ z.t → z.t ≤ x
    → n ≡ sum_to x (λ y. given (is_paid (st y)) (amount_on (tx_at (sheet_in b z) y).credits k)) → n ≡ credited (sheet_in b z) st k
unfolding credited
credits_end b z st k n x l u e = e ∙ ap (λ (c : ℕ). sum_to c (λ y. given (is_paid (st y)) (amount_on (tx_at (sheet_in b z) y).credits k))) {x = x} {y = tx_count (sheet_in b z)}
    (omega (arith, sheet-count b z))

-- ---- the share

-- 1 where a status is not open
pub bit_so : {p u : Bool} → p ≡ u → (r : ℕ) → r ≡ from_bool (not p) → (r ≡ flip u) × (r ≤ 1)
bit_so {p} {u} e r q = rw (← e) (counted p r q)
  where
    counted : (p : Bool) (r : ℕ) → r ≡ from_bool (not p) → (r ≡ flip p) × (r ≤ 1)
    counted true r q = (q, omega (arith, q))
    counted false r q = (q, omega (arith, q))
