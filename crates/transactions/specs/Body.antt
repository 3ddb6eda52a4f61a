-- What the body of a transaction's frame says (document 01, the kinds table, kind 3).
-- Assumes nothing.
use Rattle.std.specs.Prelude.{◌*◌, ◌+◌, ℕ, drop, get_or, List}
use Rattle.fields.specs.Number.{le}
use Rattle.sums.specs.Seq.{tabulate}
use Rattle.transactions.specs.Content.{Entry, Operation, Transaction}

-- the k-th element of a list that begins where the bytes s begin; each is 6 bytes
abbrev pub entry_in : List ℕ → ℕ → Entry
entry_in s k = record { account = le 2 s (6 * k); amount = le 4 s (6 * k + 2) }

abbrev pub operation_in : List ℕ → ℕ → Operation
operation_in s k = record { code = get_or s (6 * k) 0; register = get_or s (6 * k + 1) 0; value = le 4 s (6 * k + 2) }

-- "Each list begins where the one before it ended": the debits at byte 4, the credits here
abbrev pub credits_from : List ℕ → ℕ
credits_from b = 4 + 6 * get_or b 1 0

-- the operations here
abbrev pub operations_from : List ℕ → ℕ
operations_from b = credits_from b + 6 * get_or b 2 0

-- and here the body ends, by its counts
abbrev pub end_due : List ℕ → ℕ
end_due b = operations_from b + 6 * get_or b 3 0

-- what a body says: its type, and d debits, c credits and o operations, each list "read from that byte on"
unfoldable pub transaction_of : List ℕ → Transaction
transaction_of b = record {
  kind = get_or b 0 0;
  debits = tabulate (get_or b 1 0) (entry_in (drop 4 b));
  credits = tabulate (get_or b 2 0) (entry_in (drop (credits_from b) b));
  operations = tabulate (get_or b 3 0) (operation_in (drop (operations_from b) b));
}
