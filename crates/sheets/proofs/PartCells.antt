-- The parts of a transaction, read from the sheet's cells and counted by the debits' homes.
-- Assumes nothing.
use Prim.Native.Nat.{◌+◌, ◌<◌, ◌≤◌, suc, zero, ℕ}
use borrow.Author.Tests.{eq-eqb, lt-ltb, ne_eqb}
use Rattle.std.specs.Int.{from_bool}
use lib.Dec.{eqb}
use lib.ListN.{drop, get_or, length}
use mathlib.Core.Bool.{Bool, false, not, true}
use mathlib.Core.List.{List}
use mathlib.Core.Path.{◌∙◌, ◌≡◌, ap, ap₂, refl, sym}
use native.Mathlib.Omega.{arith}
use Rattle.transactions.specs.Content.{Entry, Transaction, entry_of, no_entry}
use Rattle.transactions.specs.Body.{entry_in, transaction_of}
use Rattle.sheets.proofs.HomeLaws.{home_lt}
use Rattle.sheets.proofs.SheetCells.{sheet-m, tx-from, tx-past}
use Rattle.sheets.specs.Inner.{entry_at_home, first_at_home}
use Rattle.sheets.specs.Parts.{has_part, home, parts}
use Rattle.sheets.specs.Sheet.{Sheet, sheet_in, slot}
use Rattle.sums.proofs.LoopLaws.{any_to-none, sum_most}
use Rattle.sums.proofs.SeqLaws.{tabulate_each}
use Rattle.sums.proofs.SumLaws.{sum_add, sum_ext, sum_zero, sum_zeros}
use Rattle.sums.proofs.TestLaws.{any_to_ext, given_false, given-le, given_true, sum_only}
use Rattle.sums.specs.Sum.{sum_to}
use Rattle.sums.specs.Test.{any_to, given, pick}
use Rattle.sheets.specs.declared.sheet.Sizes.{Sizes}

-- ---- one entry

module _ (S : Sheet) (s : List ℕ) (j i c h : ℕ) (e : c ≡ (entry_in s i).account) (q : h ≡ home S c) where
  pub at_home : h ≡ j → entry_at_home S (entry_in s) j i ≡ true
  unfolding entry_at_home
  at_home l = eq-eqb _ _ (sym (ap (home S) e) ∙ sym q ∙ l)

  pub elsewhere : (h ≡ j → ⊥) → entry_at_home S (entry_in s) j i ≡ false
  unfolding entry_at_home
  elsewhere l = ne_eqb _ _ (λ w. l (q ∙ ap (home S) e ∙ w))

-- ---- a part in an instance

module _ (b : List ℕ) (z : Sizes) (x j : ℕ) where
  pub part_past : z.t ≤ x → false ≡ has_part (sheet_in b z) x j
  unfolding has_part
  part_past h = sym (ap (λ (t : Transaction). any_to (length t.debits) (λ i. eqb (home (sheet_in b z) (entry_of t.debits i).account) j)) (tx-past b z x h) ∙ any_to-none _)

  pub part_in : (body list : List ℕ) (n : ℕ) (r : Bool) → x < z.t → body ≡ slot b z x → r ≡ any_to n (entry_at_home (sheet_in b z) (entry_in list) j)
      → list ≡ drop 4 body → n ≡ get_or body 1 0 → r ≡ has_part (sheet_in b z) x j
  unfolding has_part transaction_of entry_at_home
  part_in body list n r h e q el en =
      q ∙ ap₂ (λ (l : List ℕ) (c : ℕ). any_to c (entry_at_home (sheet_in b z) (entry_in l) j)) el en
      ∙ sym (tabulate_each no_entry _ _ any_to any_to_ext (λ (a : Entry). eqb (home (sheet_in b z) a.account) j))
      ∙ ap (λ (t : Transaction). any_to (length t.debits) (λ i. eqb (home (sheet_in b z) (entry_of t.debits i).account) j)) (tx-from b z x body e h)

-- ---- how many parts

-- each instance that is one of h 0 .. h (n - 1), counted over the instances, or where it comes first among them
homes_count : (m n : ℕ) (h : ℕ → ℕ) → ((i : ℕ) → h i < m)
    → sum_to m (λ j. given (any_to n (λ i. eqb (h i) j)) 1) ≡ sum_to n (λ i. given (not (any_to i (λ e. eqb (h e) (h i)))) 1)
unfolding any_to
homes_count m zero h l = sum_zeros m _ (λ j u. given_false false 1 refl) ∙ sym (sum_zero _)
homes_count m (suc n) h l =
    sum_ext m _ _ (λ j u. one_more (eqb (h n) j) (any_to n (λ i. eqb (h i) j))) ∙ sum_add m _ _
    ∙ ap₂ ◌+◌ (homes_count m n h l) (sum_only m (λ j. given (not (any_to n (λ i. eqb (h i) j))) 1) (h n) ∙ given_true _ _ (lt-ltb (h n) m (l n)))
    ∙ (unfold sum_to in refl)
  where
    one_more : (a b : Bool) → given (pick a true b) 1 ≡ given b 1 + given a (given (not b) 1)
    one_more true true = unfold pick given in refl
    one_more true false = unfold pick given in refl
    one_more false true = unfold pick given in refl
    one_more false false = unfold pick given in refl

pub parts-le : (S : Sheet) (x : ℕ) → parts S x ≤ S.m
unfolding parts
parts-le S x = omega (arith, sum_most S.m 1 (λ j. given (has_part S x j) 1) (λ j l. given-le _ _))

-- 1 is counted for an entry where no earlier one is of its instance
pub first_counted : (S : Sheet) (s : List ℕ) (i c h : ℕ) (r : Bool) → c ≡ (entry_in s i).account → h ≡ home S c → r ≡ any_to i (entry_at_home S (entry_in s) h)
    → (n : ℕ) → n ≡ from_bool (not r) → (n ≡ given (first_at_home S (entry_in s) i) 1) × (n ≤ 1)
unfolding first_at_home given
first_counted S s i c h r e q w n k =
    counted _ n (k ∙ ap (λ (u : Bool). from_bool (not u)) (w ∙ ap (λ (j : ℕ). any_to i (entry_at_home S (entry_in s) j)) (q ∙ ap (home S) e)))
  where
    counted : (b : Bool) (n : ℕ) → n ≡ from_bool b → (n ≡ given b 1) × (n ≤ 1)
    counted true n e = (e, omega arith)
    counted false n e = (e, omega arith)

module _ (b : List ℕ) (z : Sizes) (x : ℕ) where
  pub parts_none : z.m ≡ 0 → 0 ≡ parts (sheet_in b z) x
  parts_none h = omega (arith, parts-le (sheet_in b z) x, sheet-m b z)

  pub parts-past : z.t ≤ x → 0 ≡ parts (sheet_in b z) x
  unfolding parts
  parts-past h = sym (sum_zeros _ _ (λ j l. given_false _ _ (sym (part_past b z x j h))))

  parts_listed : 0 < z.m → (n : ℕ) (f : ℕ → Entry)
      → sum_to (sheet_in b z).m (λ j. given (any_to n (entry_at_home (sheet_in b z) f j)) 1) ≡ sum_to n (λ i. given (first_at_home (sheet_in b z) f i) 1)
  unfolding entry_at_home first_at_home
  parts_listed some n f = homes_count (sheet_in b z).m n (λ i. home (sheet_in b z) (f i).account) (λ i. home_lt (sheet_in b z) (omega (arith, sheet-m b z)) (f i).account)

  pub parts_in : (body list : List ℕ) (n r : ℕ) → 0 < z.m → x < z.t → body ≡ slot b z x → r ≡ sum_to n (λ i. given (first_at_home (sheet_in b z) (entry_in list) i) 1)
      → list ≡ drop 4 body → n ≡ get_or body 1 0 → r ≡ parts (sheet_in b z) x
  unfolding parts
  parts_in body list n r some h e q el en =
      q ∙ sym (parts_listed some n (entry_in list))
      ∙ sum_ext (sheet_in b z).m _ _ (λ j l. ap (λ (u : Bool). given u 1) (part_in b z x j body list n (any_to n (entry_at_home (sheet_in b z) (entry_in list) j)) h e refl el en))

  pub parts_fit : (r : ℕ) → r ≡ parts (sheet_in b z) x → r ≤ z.m
  parts_fit r e = omega (arith, parts-le (sheet_in b z) x, sheet-m b z)
