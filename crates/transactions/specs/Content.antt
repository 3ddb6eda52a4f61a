-- What a transaction says, whatever it is read from or written to (document 01, the kinds table, kind 3).
-- Assumes nothing.
use Rattle.std.specs.Prelude.{ℕ, get_or, List, []}

-- "Debits and credits are an account (2) and an amount (4, at least 1)"
pub record Entry : Type 0 where
  pub account : ℕ
  pub amount : ℕ

-- "An operation is a code (1), a register (1) and a value (4)"
pub record Operation : Type 0 where
  pub code : ℕ
  pub register : ℕ
  pub value : ℕ

-- kind is the document's *type* of a transaction (0 payment, 1 contract); the kind of its frame is always 3
pub record Transaction : Type 0 where
  pub kind : ℕ
  pub debits : List Entry
  pub credits : List Entry
  pub operations : List Operation

-- what stands past the end of a list, so that readers are total. An empty citation place names 65535, past the end of every sheet: a payment with no debit and no credit, which reserves, counts and runs nothing
abbrev pub no_entry : Entry
no_entry = record { account = 0; amount = 0 }

abbrev pub no_operation : Operation
no_operation = record { code = 0; register = 0; value = 0 }

abbrev pub no_transaction : Transaction
no_transaction = record { kind = 0; debits = []; credits = []; operations = [] }

-- a list's elements by number
abbrev pub entry_of : List Entry → ℕ → Entry
entry_of l k = get_or l k no_entry

abbrev pub operation_of : List Operation → ℕ → Operation
operation_of l k = get_or l k no_operation
