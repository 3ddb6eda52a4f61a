-- Amounts in a view: a sequence of covered debits never falls below 0, and the total stays.
-- Assumes nothing.
use Prim.Native.Nat.{◌+◌, ◌-◌, ◌<◌, ◌≤◌, suc, zero, ℕ}
use borrow.Author.Tests.{ltb-false}
use lib.Dec.{eqb, ltb}
use mathlib.Core.Bool.{Bool, false, true}
use mathlib.Core.Logic.{◌≢◌}
use mathlib.Core.Path.{◌∙◌, ◌≡◌, ap, refl, sym}
use native.Mathlib.Omega.{arith}
use Rattle.escrow.specs.Amounts.{credited, debit_at, free_by, held_by, is_paid, is_pending, not_returned, reserved}
use Rattle.settlement.proofs.ContractLaws.{paid_ne_open, returned_ne_open}
use Rattle.settlement.specs.Books.{Status, paid, pending, returned}
use Rattle.settlement.specs.View.{Rows, View}
use Rattle.sheets.specs.Parts.{credit_on, debit_on, home}
use Rattle.sheets.specs.Sheet.{Sheet, balance, tx_count}
use Rattle.sums.proofs.SumLaws.{sum_add, sum_ext, sum_le, sum_suc, sum_swap, sum_zero}
use Rattle.sums.proofs.TestLaws.{by-given, given_add, given_ext, given_false, given-given, given-le, given_mono, given_zero, sum_given, sum_only}
use Rattle.sums.specs.Sum.{sum_to}
use Rattle.sums.specs.Test.{given}
use Rattle.frames.specs.Step.{judged}

-- debits of good parts whose transaction is paid
unfoldable pub spent : Sheet → Rows → (ℕ → Status) → ℕ → ℕ → ℕ
spent S R st n k = sum_to n (debit_at S R (λ x. is_paid (st x)) k)

-- ---- nothing falls below 0

-- what is settled in the first is settled so in the second
abbrev pub Keeps : (ℕ → Status) → (ℕ → Status) → Type 0
Keeps old new = (x : ℕ) → old x ≢ pending → new x ≡ old x

paid_keeps : (s s' : Status) → (s ≢ pending → s' ≡ s) → is_paid s ≡ true → is_paid s' ≡ true
paid_keeps pending s' h e = cc
paid_keeps paid s' h e = ap is_paid (h paid_ne_open)
paid_keeps returned s' h e = cc

returned_keeps : (s s' : Status) → (s ≢ pending → s' ≡ s) → not_returned s' ≡ true → not_returned s ≡ true
returned_keeps pending s' h e = refl
returned_keeps paid s' h e = refl
returned_keeps returned s' h e = sym (ap not_returned (h returned_ne_open)) ∙ e

credits_up : (S : Sheet) (old new : ℕ → Status) (k : ℕ) → Keeps old new → credited S old k ≤ credited S new k
unfolding credited
credits_up S old new k h = sum_le _ _ _ (λ x l. given_mono _ _ _ _ (paid_keeps (old x) (new x) (h x)) (λ e. omega arith))

reserved_down : (S : Sheet) (R : Rows) (old new : ℕ → Status) (n k : ℕ) → Keeps old new → reserved S R new n k ≤ reserved S R old n k
unfolding reserved debit_at
reserved_down S R old new n k h =
    sum_le n _ _ (λ p l. given_mono _ _ _ _ (λ e. e)
    (λ e. given_mono _ _ _ _ (returned_keeps (old (R.cell (home S k) p)) (new (R.cell (home S k) p)) (h (R.cell (home S k) p))) (λ e'. omega arith)))

debit_at-le : (S : Sheet) (R : Rows) (w : ℕ → Bool) (k p : ℕ) → debit_at S R w k p ≤ debit_on S (R.cell (home S k) p) k
unfolding debit_at
debit_at-le S R w k p = by-given (λ (z : ℕ). z ≤ debit_on S (R.cell (home S k) p) k) _ _ (λ e. given-le _ _) (λ e. omega arith)

debit_at-failed : (S : Sheet) (R : Rows) (w : ℕ → Bool) (k p : ℕ) → R.good (home S k) p ≡ false → debit_at S R w k p ≡ 0
unfolding debit_at
debit_at-failed S R w k p e = given_false _ _ e

-- n places of account k's row are in the view, and st is the status there. was p is the status in the view of the citation at place p
module _ (S : Sheet) (R : Rows) (k : ℕ) (was : ℕ → ℕ → Status) (st : ℕ → Status) where
  pub no_overdraft : (n : ℕ) → ((p : ℕ) → p < n → Keeps (was p) st)
      → ((p : ℕ) → p < n → R.good (home S k) p ≡ true → debit_on S (R.cell (home S k) p) k ≤ free_by S R (was p) p k)
      → reserved S R st n k ≤ balance S k + credited S st k
  unfolding reserved
  no_overdraft zero h judged = omega (arith, sum_zero (debit_at S R (λ x. not_returned (st x)) k))
  no_overdraft (suc p) h judged = go (R.good (home S k) p) refl (no_overdraft p (λ q l. h q (omega arith)) (λ q l. judged q (omega arith)))
    where
      w : ℕ → Bool
      w x = not_returned (st x)

      go : (b : Bool) → R.good (home S k) p ≡ b → reserved S R st p k ≤ balance S k + credited S st k
          → sum_to (suc p) (debit_at S R w k) ≤ balance S k + credited S st k
      go false e ih = omega (arith, ih, sum_suc p (debit_at S R w k), debit_at-failed S R w k p e)
      go true e ih =
          let q : Keeps (was p) st = h p (omega arith) in
          let j : debit_on S (R.cell (home S k) p) k ≤ balance S k + credited S (was p) k - reserved S R (was p) p k = unfold free_by in judged p (omega arith) e in
          omega (
            arith,
            ih,
            sum_suc p (debit_at S R w k),
            debit_at-le S R w k p,
            j,
            credits_up S (was p) st k q,
            reserved_down S R (was p) st p k q,
          )

-- ---- the total

split_status : (s : Status) (n : ℕ) → given (not_returned s) n ≡ given (is_pending s) n + given (is_paid s) n
unfolding given
split_status pending n = omega arith
split_status paid n = omega arith
split_status returned n = refl

split_debit : (S : Sheet) (R : Rows) (st : ℕ → Status) (k p : ℕ)
    → debit_at S R (λ x. not_returned (st x)) k p ≡ debit_at S R (λ x. is_pending (st x)) k p + debit_at S R (λ x. is_paid (st x)) k p
unfolding debit_at
split_debit S R st k p =
    ap (given (R.good (home S k) p)) (split_status (st (R.cell (home S k) p)) (debit_on S (R.cell (home S k) p) k)) ∙ given_add _ _ _

split_reserved : (S : Sheet) (R : Rows) (st : ℕ → Status) (n k : ℕ) → reserved S R st n k ≡ held_by S R st n k + spent S R st n k
unfolding reserved held_by spent
split_reserved S R st n k = sum_ext n _ _ (λ p l. split_debit S R st k p) ∙ sum_add n _ _

module _ (S : Sheet) (R : Rows) (v : View) (st : ℕ → Status)
    (enough : (k : ℕ) → k < S.a → reserved S R st (v (home S k)) k ≤ balance S k + credited S st k)
    (none : (x k : ℕ) → tx_count S ≤ x → debit_on S x k ≡ 0)
    (balanced : (x : ℕ) → x < tx_count S → sum_to S.a (λ k. debit_on S x k) ≡ sum_to S.a (λ k. credit_on S x k))
    (whole : (x : ℕ) → x < tx_count S → is_paid (st x) ≡ true → (k : ℕ) → k < S.a
    → sum_to (v (home S k)) (λ p. given (R.good (home S k) p) (given (eqb (R.cell (home S k) p) x) (debit_on S x k))) ≡ debit_on S x k) where
  -- what is spent of an account is the debits of the paid transactions
  spent_is : (k : ℕ) → k < S.a → spent S R st (v (home S k)) k ≡ sum_to (tx_count S) (λ x. given (is_paid (st x)) (debit_on S x k))
  unfolding spent debit_at
  spent_is k l =
      sum_ext _ _ _ (λ p u. each p) ∙ sum_swap (v (home S k)) (tx_count S) _ ∙ sum_ext (tx_count S) _ _ column
    where
      h : ℕ
      h = home S k

      due : ℕ → ℕ
      due x = given (is_paid (st x)) (debit_on S x k)

      known : (c : ℕ) → given (ltb c (tx_count S)) (due c) ≡ due c
      known c = by-given (λ (z : ℕ). z ≡ due c) (ltb c (tx_count S)) (due c) (λ e. refl)
          (λ e. sym (ap (given (is_paid (st c))) (none c k (ltb-false _ _ e)) ∙ given_zero _))

      each : (p : ℕ) → given (R.good h p) (due (R.cell h p)) ≡ sum_to (tx_count S) (λ x. given (R.good h p) (given (eqb (R.cell h p) x) (due x)))
      each p = sym (sum_given (R.good h p) (tx_count S) _ ∙ ap (given (R.good h p)) (sum_only (tx_count S) due (R.cell h p) ∙ known (R.cell h p)))

      column : (x : ℕ) → x < tx_count S → sum_to (v h) (λ p. given (R.good h p) (given (eqb (R.cell h p) x) (due x))) ≡ due x
      column x u =
          sum_ext (v h) _ _ (λ p u'. ap (given (R.good h p)) (given-given (eqb (R.cell h p) x) (is_paid (st x)) (debit_on S x k)) ∙ given-given _ _ _)
          ∙ sum_given (is_paid (st x)) (v h) _ ∙ given_ext (is_paid (st x)) _ _ (λ e. whole x u e k l)

  -- one account
  account : (k : ℕ) → k < S.a
      → free_by S R st (v (home S k)) k + held_by S R st (v (home S k)) k + spent S R st (v (home S k)) k ≡ balance S k + credited S st k
  unfolding free_by
  account k l = omega (arith, split_reserved S R st (v (home S k)) k, enough k l)

  -- over all accounts, what is spent is what is credited
  spent_credited : sum_to S.a (λ k. spent S R st (v (home S k)) k) ≡ sum_to S.a (λ k. credited S st k)
  unfolding credited
  spent_credited =
      sum_ext S.a _ _ spent_is
      ∙ sum_swap S.a (tx_count S) _
      ∙ sum_ext (tx_count S) _ _ (λ x u. sum_given (is_paid (st x)) S.a _ ∙ ap (given (is_paid (st x))) (balanced x u) ∙ sym (sum_given (is_paid (st x)) S.a _))
      ∙ sum_swap (tx_count S) S.a _

  pub total : sum_to S.a (λ k. free_by S R st (v (home S k)) k) + sum_to S.a (λ k. held_by S R st (v (home S k)) k) ≡ sum_to S.a (balance S)
  total =
      let f : ℕ → ℕ = λ k. free_by S R st (v (home S k)) k in
      let h : ℕ → ℕ = λ k. held_by S R st (v (home S k)) k in
      let s : ℕ → ℕ = λ k. spent S R st (v (home S k)) k in
      omega (
        arith,
        sum_ext S.a (λ k. f k + h k + s k) (λ k. balance S k + credited S st k) account,
        sum_add S.a (λ k. f k + h k) s,
        sum_add S.a f h,
        sum_add S.a (balance S) (credited S st),
        spent_credited,
      )
