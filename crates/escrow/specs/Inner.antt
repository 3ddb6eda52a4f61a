-- Proof tools that only the contracts of inner functions cite: no reader of the rules needs them.
-- Assumes nothing.
use Rattle.std.specs.Prelude.{ℕ, eqb, leb, Bool, false, true}
use Rattle.escrow.specs.Amounts.{is_pending, not_returned}
use Rattle.transactions.specs.Content.{Entry}
use Rattle.escrow.specs.declared.amounts.Counted.{Counted}
use Rattle.settlement.specs.Books.{Status}
use Rattle.settlement.specs.View.{Rows}
use Rattle.sheets.specs.Parts.{debit_on, home}
use Rattle.sheets.specs.Sheet.{Sheet}
use Rattle.sums.specs.Sum.{sum_to}
use Rattle.sums.specs.Test.{given, pick}

-- which statuses count: for free all but returned, for held only pending
unfoldable pub takes : Bool → Status → Bool
takes all st = pick all (not_returned st) (is_pending st)

-- whether the debits of paid transactions count, too
abbrev pub counts_paid : Counted → Bool
counts_paid Counted.NotReturned = true
counts_paid Counted.Open = false

unfoldable pub out_at : Sheet → Rows → (ℕ → Status) → Bool → ℕ → ℕ → ℕ → ℕ
out_at S R st all h k p = given (R.good h p) (given (takes all (st (R.cell h p))) (debit_on S (R.cell h p) k))

unfoldable pub debits_out : Sheet → Rows → (ℕ → Status) → Bool → ℕ → ℕ → ℕ → ℕ
debits_out S R st all h k n = sum_to n (out_at S R st all h k)

-- debit i of a list is not in instance j, or is at most the free amount f of its account
unfoldable pub debit_good : Sheet → (ℕ → ℕ) → (ℕ → Entry) → ℕ → ℕ → Bool
debit_good S f e j i = pick (eqb (home S (e i).account) j) (leb (e i).amount (f (e i).account)) true
