-- Whose an account is, and the parts of a transaction (document 01, "Parts").
-- Assumes nothing.
use Rattle.std.specs.Prelude.{◌%◌, ℕ, eqb, length, Bool, List}
use Rattle.transactions.specs.Content.{Entry, entry_of}
use Rattle.sheets.specs.Sheet.{Sheet, tx_at}
use Rattle.sums.specs.Sum.{sum_to}
use Rattle.sums.specs.Test.{any_to, given}

-- "Account k belongs to instance k modulo m". Only home's laws (proofs/HomeLaws) and the proof of `home_of` look inside
unfoldable pub home : Sheet → ℕ → ℕ
home S k = k % S.m

-- what the entries of a list put on account k
unfoldable pub amount_on : List Entry → ℕ → ℕ
amount_on l k = sum_to (length l) (λ e. given (eqb (entry_of l e).account k) (entry_of l e).amount)

abbrev pub debit_on : Sheet → ℕ → ℕ → ℕ
debit_on S x k = amount_on (tx_at S x).debits k

abbrev pub credit_on : Sheet → ℕ → ℕ → ℕ
credit_on S x k = amount_on (tx_at S x).credits k

-- "The part of a transaction in an instance is all its debits on accounts of that instance": x has one in j if there is such a debit
unfoldable pub has_part : Sheet → ℕ → ℕ → Bool
has_part S x j = any_to (length (tx_at S x).debits) (λ e. eqb (home S (entry_of (tx_at S x).debits e).account) j)

-- how many parts it has, over the instances
unfoldable pub parts : Sheet → ℕ → ℕ
parts S x = sum_to S.m (λ j. given (has_part S x j) 1)

-- document 01's type (the record's `kind`): 0 a payment, 1 a contract
unfoldable pub is_contract : Sheet → ℕ → Bool
is_contract S x = eqb (tx_at S x).kind 1
