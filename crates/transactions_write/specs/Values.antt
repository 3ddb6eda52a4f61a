-- A transaction as the caller of its writer hands it over: lists of numbers.
-- Assumes nothing.
use Rattle.std.specs.Prelude.{ℕ, eqb, get_or, length, Bool, List}
use Rattle.sums.specs.Seq.{tabulate}
use Rattle.sums.specs.Test.{both}
use Rattle.transactions.specs.Content.{Entry, Operation, Transaction}
use Rattle.transactions_write.specs.declared.Counts.{Counts}

-- the accounts and amounts of the debits (payers, debits) and of the credits (payees, credits), and the codes, registers and values of the operations
pub record Lists : Type 0 where
  pub payers : List ℕ
  pub debits : List ℕ
  pub payees : List ℕ
  pub credits : List ℕ
  pub codes : List ℕ
  pub registers : List ℕ
  pub values : List ℕ

abbrev pub lists : List ℕ → List ℕ → List ℕ → List ℕ → List ℕ → List ℕ → List ℕ → Lists
lists payers debits payees credits codes registers values =
    record { payers = payers; debits = debits; payees = payees; credits = credits; codes = codes; registers = registers; values = values }

-- the k-th entry of a list of accounts and a list of amounts; as many as there are accounts
abbrev pub entry_with : List ℕ → List ℕ → ℕ → Entry
entry_with accounts amounts k = record { account = get_or accounts k 0; amount = get_or amounts k 0 }

abbrev pub entries_with : List ℕ → List ℕ → List Entry
entries_with accounts amounts = tabulate (length accounts) (entry_with accounts amounts)

-- the k-th operation; as many as there are codes
abbrev pub operation_with : List ℕ → List ℕ → List ℕ → ℕ → Operation
operation_with codes registers values k = record { code = get_or codes k 0; register = get_or registers k 0; value = get_or values k 0 }

abbrev pub operations_with : List ℕ → List ℕ → List ℕ → List Operation
operations_with codes registers values = tabulate (length codes) (operation_with codes registers values)

-- the transaction
unfoldable pub transaction_with : ℕ → Lists → Transaction
transaction_with kind l = record {
  kind = kind;
  debits = entries_with l.payers l.debits;
  credits = entries_with l.payees l.credits;
  operations = operations_with l.codes l.registers l.values;
}

-- each of seven lengths is the one that its count says
unfoldable pub counts_agree : Counts → ℕ → ℕ → ℕ → ℕ → ℕ → ℕ → ℕ → Bool
counts_agree n payers debits payees credits codes registers values =
    both (eqb payers n.debits)
    (both (eqb debits n.debits)
    (both (eqb payees n.credits)
    (both (eqb credits n.credits)
    (both (eqb codes n.operations) (both (eqb registers n.operations) (eqb values n.operations))))))

-- refusal 4 of the writer, "a list of another length than its count", does not apply
abbrev pub lists_agree : Counts → Lists → Bool
lists_agree n l =
    counts_agree n (length l.payers) (length l.debits) (length l.payees) (length l.credits) (length l.codes) (length l.registers) (length l.values)
