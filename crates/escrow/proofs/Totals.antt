-- Amounts on accepted logs: free and held add up to the starts (`adds_up`); free is not cut off at 0 in the full view (`not_below`), nor, for the accounts of the
-- citing instance, in a citation's view (`covers_view`). For other accounts in a citation's view nothing is said: there it may be.
-- Assumes nothing.
use Prim.Native.Nat.{◌*◌, ◌+◌, ◌/◌, ◌<◌, ◌≤◌, ℕ}
use borrow.Author.Tests.{eq-eqb, eqb-false, eqb-true, leb-true, lt-ltb, ne_eqb}
use lib.Dec.{eqb, leb}
use lib.ListN.{get_or-eq_default, length}
use mathlib.Core.Bool.{false, true}
use mathlib.Core.List.{List}
use mathlib.Core.Path.{◌∙◌, ◌≡◌, ap, refl, subst, sym}
use native.Mathlib.Decide.{ℕ_discrete}
use native.Mathlib.Omega.{arith}
use Rattle.escrow.proofs.FullView.{free_all, held_all}
use Rattle.escrow.proofs.Balance.{Keeps, no_overdraft, total}
use Rattle.escrow.proofs.Growth.{Extends, full_climbs, full_once}
use Rattle.escrow.proofs.Outcomes.{ProperLogs, outcome-is, view_inside, view_of_own}
use Rattle.escrow.specs.Amounts.{covered_by, credited, free, free_by, held, is_paid, part_good, reserved}
use Rattle.escrow.specs.Outcome.{History, citation, full_view, judge, outcome, rows_of, view_of}
use Rattle.escrow.specs.Report.{rows_all, status_all}
use Rattle.transactions.specs.Content.{Entry, Transaction, entry_of, no_transaction}
use Rattle.settlement.proofs.StatusLaws.{Once, booked-once, paid-whole, status_keeps}
use Rattle.settlement.specs.Books.{Status, paid, pending, returned}
use Rattle.settlement.specs.Settlement.{is_cite, status}
use Rattle.settlement.specs.View.{Rows, View, event_at}
use Rattle.sheets.proofs.HomeLaws.{home_lt}
use Rattle.sheets.proofs.ProperLaws.{ProperSheet}
use Rattle.sheets.specs.Parts.{amount_on, has_part, home}
use Rattle.sheets.specs.Sheet.{Sheet, balance, tx_at, tx_count}
use Rattle.sums.proofs.SumLaws.{sum_ext, sum_mono, sum_swap, sum_zeros}
use Rattle.sums.proofs.TestLaws.{all_to_true, any_to_false, given_false, given_true, pick-false, pick_true, sum_one, sum_only}
use Rattle.sums.specs.Sum.{sum_to}
use Rattle.sums.specs.Test.{given}

-- a good part's debits are covered
part_covers : (S : Sheet) → ProperSheet S → (R : Rows) (v : View) (j x k : ℕ) → part_good S R v j x ≡ true → home S k ≡ j → amount_on (tx_at S x).debits k ≤ free S R v k
unfolding part_good covered_by amount_on
part_covers S Q R v j x k g h =
    sum_one _ _ _ _ (λ i i' l l' e e'. Q.apart x i i' l l' (eqb-true _ _ e ∙ sym (eqb-true _ _ e')))
    (λ i l e.
    let a : (entry_of (tx_at S x).debits i).account ≡ k = eqb-true _ _ e in
    let t : eqb (home S (entry_of (tx_at S x).debits i).account) j ≡ true = eq-eqb _ _ (ap (home S) a ∙ h) in
    let b : leb (entry_of (tx_at S x).debits i).amount (free S R v (entry_of (tx_at S x).debits i).account) ≡ true =
    sym (pick_true _ _ _ t) ∙ all_to_true _ _ g i l in
    subst (λ (n : ℕ). (entry_of (tx_at S x).debits i).amount ≤ free S R v n) a (leb-true _ _ b))

-- no part, no debit
no_debit : (S : Sheet) (x k : ℕ) → has_part S x (home S k) ≡ false → amount_on (tx_at S x).debits k ≡ 0
unfolding has_part amount_on
no_debit S x k e = sum_zeros _ _ (λ i l. given_false _ _ (ne_eqb _ k (λ q. eqb-false _ _ (any_to_false _ _ e i l) (ap (home S) q))))

-- over all accounts, a list's amounts
amounts_sum : (n : ℕ) (l : List Entry) → ((i : ℕ) → i < length l → (entry_of l i).account < n) → sum_to n (λ k. amount_on l k) ≡ sum_to (length l) (λ i. (entry_of l i).amount)
unfolding amount_on
amounts_sum n l h =
    sum_swap n (length l) (λ k i. given (eqb (entry_of l i).account k) (entry_of l i).amount)
    ∙ sum_ext (length l) _ _ (λ i u. sum_only n (λ k. (entry_of l i).amount) (entry_of l i).account ∙ given_true _ _ (lt-ltb _ n (h i u)))

paid_of : (s : Status) → is_paid s ≡ true → s ≡ paid
paid_of pending e = cc
paid_of paid e = refl
paid_of returned e = cc

out_of : (S : Sheet) (x k : ℕ) → tx_count S ≤ x → amount_on (tx_at S x).debits k ≡ 0
unfolding amount_on sum_to
out_of S x k h = ap (λ (t : Transaction). amount_on t.debits k) (get_or-eq_default S.transactions no_transaction h)

itself : (S : Sheet) (H : History) → Extends S H H
itself S H = record { longer = λ j l. omega arith; ranks = λ j n l u. refl; entries = λ j n i l u k. refl; cells = λ j p l u. refl }

module _ (S : Sheet) (Q : ProperSheet S) (H : History) (F : ProperLogs S H) where
  keeps : (j p : ℕ) → j < S.m → p < H.height j * 32 → Keeps (status S (rows_all S H) (view_of H j p)) (status_all S H)
  unfolding status_all
  keeps j p l u x =
      status_keeps S Q.some (rows_all S H) (view_of H j p) (full_view H) (λ i k. unfold full_view in view_inside S H F j p i l u k)
      (full_climbs S Q.some H H F F (itself S H)) (full_once S Q.some H H F F (itself S H)) x

  judged : (k p : ℕ) → p < H.height (home S k) * 32 → outcome S H (citation (home S k) p) ≡ true
      → amount_on (tx_at S ((rows_all S H).cell (home S k) p)).debits k ≤ free_by S (rows_all S H) (status S (rows_all S H) (view_of H (home S k) p)) p k
  judged k p u g =
      subst (λ (n : ℕ). amount_on (tx_at S ((rows_all S H).cell (home S k) p)).debits k ≤ free_by S (rows_all S H) (status S (rows_all S H) (view_of H (home S k) p)) n k)
      (view_of_own H (home S k) p)
      (unfold free in part_covers S Q (rows_all S H) (view_of H (home S k) p) (home S k) _ k
      (unfold judge rows_all rows_of in (sym (outcome-is S H F Q.some (citation (home S k) p) (home_lt S Q.some k, u)) ∙ g)) refl)

  pub covers : (k : ℕ) → reserved S (rows_all S H) (status_all S H) (full_view H (home S k)) k ≤ balance S k + credited S (status_all S H) k
  unfolding rows_all rows_of full_view
  covers k =
      no_overdraft S (rows_all S H) k (λ p. status S (rows_all S H) (view_of H (home S k) p)) (status_all S H) (full_view H (home S k))
      (λ p l. keeps (home S k) p (home_lt S Q.some k) l) (λ p l g. judged k p l g)

  whole : (x : ℕ) → x < tx_count S → is_paid (status_all S H x) ≡ true → (k : ℕ)
      → sum_to (full_view H (home S k)) (λ p. given ((rows_all S H).good (home S k) p) (given (eqb ((rows_all S H).cell (home S k) p) x) (amount_on (tx_at S x).debits k))) ≡
      amount_on (tx_at S x).debits k
  unfolding status_all
  whole x l e k =
      booked-once S (rows_all S H) (full_view H) (full_once S Q.some H H F F (itself S H)) x l
      (paid-whole S Q.small (rows_all S H) (full_view H) (full_once S Q.some H H F F (itself S H)) x (paid_of _ e))
      (home S k) (home_lt S Q.some k) _ (no_debit S x k)

  -- free and held amounts add up to the starts
  pub adds_up : sum_to S.a (free_all S H) + sum_to S.a (held_all S H) ≡ sum_to S.a (balance S)
  unfolding free_all held_all free held status_all
  adds_up =
      total S (rows_all S H) (full_view H) (status_all S H)
      (λ k l. covers k) (λ x k h. out_of S x k h)
      (λ x l. amounts_sum S.a (tx_at S x).debits (Q.debited x) ∙ Q.balanced x ∙ sym (amounts_sum S.a (tx_at S x).credits (Q.credited x)))
      (λ x l e k u. whole x l e k)

  -- no free amount is below 0: the difference is not cut off
  pub not_below : (k : ℕ) → free_all S H k + reserved S (rows_all S H) (status_all S H) (full_view H (home S k)) k
      ≡ balance S k + credited S (status_all S H) k
  unfolding free_all free free_by status_all
  not_below k = omega (arith, covers k)

  view_once : (j p : ℕ) → j < S.m → p < H.height j * 32 → Once S (rows_all S H) (view_of H j p)
  view_once j p l u x i t k =
      omega (
        arith,
        full_once S Q.some H H F F (itself S H) x i t k,
        sum_mono (view_of H j p i) (full_view H i) (λ q. is_cite x (event_at (rows_all S H) i q))
            (unfold full_view in view_inside S H F j p i l u k),
      )

  -- nor is it cut off where a part is judged: in a citation's view, for the accounts of its instance
  view_grown_own : (j q p i : ℕ) → j < S.m → q ≤ p → p < H.height j * 32 → i < S.m → view_of H j q i ≤ view_of H j p i
  unfolding view_of
  view_grown_own j q p i l h u k =
      elim (ℕ_discrete i j) [
        | yes e ↦ omega (arith, pick_true (eqb i j) q (H.entry j (q / 32) i * 32) (eq-eqb i j e), pick_true (eqb i j) p (H.entry j (p / 32) i * 32) (eq-eqb i j e))
        | no e ↦ omega (
          arith,
          pick-false (eqb i j) q (H.entry j (q / 32) i * 32) (ne_eqb i j e),
          pick-false (eqb i j) p (H.entry j (p / 32) i * 32) (ne_eqb i j e),
          F.cut_up j (q / 32) (p / 32) i l (omega arith) (omega arith) k e,
        )
      ]

  pub covers_view : (k p : ℕ) → p < H.height (home S k) * 32
      → reserved S (rows_all S H) (status S (rows_all S H) (view_of H (home S k) p)) p k
      ≤ balance S k + credited S (status S (rows_all S H) (view_of H (home S k) p)) k
  unfolding rows_all rows_of
  covers_view k p u =
      no_overdraft S (rows_all S H) k (λ q. status S (rows_all S H) (view_of H (home S k) q)) (status S (rows_all S H) (view_of H (home S k) p)) p
      (λ q l x. status_keeps S Q.some (rows_all S H) (view_of H (home S k) q) (view_of H (home S k) p)
      (λ i y. view_grown_own (home S k) q p i (home_lt S Q.some k) (omega arith) u y)
      (λ j y n a. F.climbs j y n (omega (arith, view_inside S H F (home S k) p j (home_lt S Q.some k) u y)))
      (view_once (home S k) p (home_lt S Q.some k) u) x)
      (λ q l g. judged k q (omega arith) g)
