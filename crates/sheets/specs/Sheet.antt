-- The sheet of document 01 (head, starts and transactions), and the sheet that the lent cells hold.
-- Assumes nothing.
use Rattle.std.specs.Prelude.{◌*◌, ◌+◌, min, ℕ, drop, get_or, length, take, List}
use Rattle.transactions.specs.Content.{Transaction, no_transaction}
use Rattle.transactions.specs.Body.{transaction_of}
use Rattle.sums.specs.Seq.{tabulate}
use Rattle.sheets.specs.declared.sheet.Sizes.{Sizes}
use Rattle.fields.specs.Number.{le}

-- m instances, a accounts, g registers; document 01's starts are the balances, and its t is the number of transactions
pub record Sheet : Type 0 where
  pub m : ℕ
  pub a : ℕ
  pub g : ℕ
  pub balances : List ℕ
  pub transactions : List Transaction

-- document 01's t
abbrev pub tx_count : Sheet → ℕ
tx_count S = length S.transactions

-- transaction x; one with no entries where there is none
abbrev pub tx_at : Sheet → ℕ → Transaction
tx_at S x = get_or S.transactions x no_transaction

-- the start of account k
abbrev pub balance : Sheet → ℕ → ℕ
balance S k = get_or S.balances k 0

-- ---- the cells: balance k is the 8 bytes at 8 k, transaction x the body at the start of the 100 bytes at 8 a + 100 x

-- where the slot of transaction x begins
abbrev pub slot_from : ℕ → ℕ → ℕ
slot_from a x = 8 * a + 100 * x

abbrev pub slot_in : ℕ → List ℕ → ℕ → List ℕ
slot_in a cells x = take 100 (drop (slot_from a x) cells)

-- a balance of any cells is cut to 2^40; one that was loaded is at most that
abbrev pub balance_in : List ℕ → ℕ → ℕ
balance_in cells k = min (le 8 cells (8 * k)) 1099511627776

abbrev pub transaction_in : ℕ → List ℕ → ℕ → Transaction
transaction_in a cells x = transaction_of (slot_in a cells x)

-- the sheet with n transactions in the cells
unfoldable pub sheet_from : ℕ → ℕ → ℕ → ℕ → List ℕ → Sheet
sheet_from m a g n cells = record { m = m; a = a; g = g; balances = tabulate a (balance_in cells); transactions = tabulate n (transaction_in a cells) }

-- the sheet of these sizes in its cells, and the slot of its transaction x
unfoldable pub sheet_in : List ℕ → Sizes → Sheet
sheet_in b z = sheet_from z.m z.a z.g z.t b

abbrev pub slot : List ℕ → Sizes → ℕ → List ℕ
slot b z x = slot_in z.a b x
