-- Free and held amounts in a view, and whether a part is covered (document 01, "Amounts in a view", "Part outcome").
-- Assumes nothing.
use Rattle.std.specs.Prelude.{◌+◌, ◌-◌, ℕ, eqb, leb, length, Bool, false, true}
use Rattle.transactions.specs.Content.{entry_of}
use Rattle.settlement.specs.Books.{Status, paid, pending, returned}
use Rattle.settlement.specs.Settlement.{status}
use Rattle.settlement.specs.View.{Rows, View}
use Rattle.sheets.specs.Parts.{credit_on, debit_on, home}
use Rattle.sheets.specs.Sheet.{Sheet, balance, tx_at, tx_count}
use Rattle.sums.specs.Sum.{sum_to}
use Rattle.sums.specs.Test.{all_to, given, pick}

abbrev pub is_paid : Status → Bool
is_paid pending = false
is_paid paid = true
is_paid returned = false

abbrev pub is_pending : Status → Bool
is_pending pending = true
is_pending paid = false
is_pending returned = false

abbrev pub not_returned : Status → Bool
not_returned pending = true
not_returned paid = true
not_returned returned = false

-- credits of paid transactions on account k, st being the settlement
unfoldable pub credited : Sheet → (ℕ → Status) → ℕ → ℕ
credited S st k = sum_to (tx_count S) (λ x. given (is_paid (st x)) (credit_on S x k))

-- the debit on account k at place p of its instance's row, where the part is good and its transaction passes the test
unfoldable pub debit_at : Sheet → Rows → (ℕ → Bool) → ℕ → ℕ → ℕ
debit_at S R w k p = given (R.good (home S k) p) (given (w (R.cell (home S k) p)) (debit_on S (R.cell (home S k) p) k))

-- debits of good parts whose transaction is not returned, over n places
unfoldable pub reserved : Sheet → Rows → (ℕ → Status) → ℕ → ℕ → ℕ
reserved S R st n k = sum_to n (debit_at S R (λ x. not_returned (st x)) k)

-- debits of good parts whose transaction is open
unfoldable pub held_by : Sheet → Rows → (ℕ → Status) → ℕ → ℕ → ℕ
held_by S R st n k = sum_to n (debit_at S R (λ x. is_pending (st x)) k)

-- "Free = start + credits of paid transactions − debits of good parts whose transaction is not returned". On accepted logs the difference is not cut off at 0
-- in the full view (proofs/Totals, `not_below`), nor in a citation's view for the accounts of its own instance (`covers_view`). In a citation's view it may be for
-- the accounts of other instances, since views are not closed; no rule looks at those
unfoldable pub free_by : Sheet → Rows → (ℕ → Status) → ℕ → ℕ → ℕ
free_by S R st n k = balance S k + credited S st k - reserved S R st n k

unfoldable pub free : Sheet → Rows → View → ℕ → ℕ
free S R v k = free_by S R (status S R v) (v (home S k)) k

-- "Held = debits of good parts whose transaction is open"
unfoldable pub held : Sheet → Rows → View → ℕ → ℕ
held S R v k = held_by S R (status S R v) (v (home S k)) k

-- every debit of x's part in instance j is at most the amount f of its account. A transaction that is not there has no debits and passes
unfoldable pub covered_by : Sheet → (ℕ → ℕ) → ℕ → ℕ → Bool
covered_by S f j x =
    all_to (length (tx_at S x).debits)
    (λ e. pick (eqb (home S (entry_of (tx_at S x).debits e).account) j)
    (leb (entry_of (tx_at S x).debits e).amount (f (entry_of (tx_at S x).debits e).account)) true)

-- "A part is good if every debit in it is at most the free amount of its account in the citation's view, otherwise failed"
unfoldable pub part_good : Sheet → Rows → View → ℕ → ℕ → Bool
part_good S R v j x = covered_by S (free S R v) j x
