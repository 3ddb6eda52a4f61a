-- The bytes of a frame, and the body of each kind by its content (document 01, "Slips" and the kinds table).
-- Assumes nothing.
use Rattle.std.specs.Prelude.{◌+◌, ℕ, eqb, ltb, get_or, length, Bool, true, List, ◌++◌, ◌∷◌}
use Rattle.fields.specs.Number.{le_bytes}
use Rattle.fields.specs.Rows.{list_bytes}
use Rattle.sums.specs.Seq.{tabulate}
use Rattle.sums.specs.Test.{all_to, pick}
use Rattle.transactions.specs.Content.{Entry, Operation, Transaction, no_entry, no_operation}
use Rattle.frames.specs.declared.block.Block.{Block}
use Rattle.frames.specs.declared.header.Header.{Header}

-- "A slip is a 4-byte length L, then L bytes: a two-byte kind and a body"
unfoldable pub frame_bytes : ℕ → List ℕ → List ℕ
frame_bytes kind body = le_bytes 4 (2 + length body) ++ (le_bytes 2 kind ++ body)

-- kind 1: m, a, g and t, "2 bytes each"
unfoldable pub header_body : Header → List ℕ
header_body h = le_bytes 2 h.m ++ (le_bytes 2 h.a ++ (le_bytes 2 h.g ++ le_bytes 2 h.t))

-- kind 2: "a balances of 8 bytes"
unfoldable pub balances_body : List ℕ → List ℕ
balances_body l = list_bytes (le_bytes 8) 0 l

-- "an account (2) and an amount (4, ..)"
abbrev pub entry_bytes : Entry → List ℕ
entry_bytes e = le_bytes 2 e.account ++ le_bytes 4 e.amount

-- "a code (1), a register (1) and a value (4)"
abbrev pub operation_bytes : Operation → List ℕ
operation_bytes o = o.code ∷ o.register ∷ le_bytes 4 o.value

abbrev pub entries_bytes : List Entry → List ℕ
entries_bytes l = list_bytes entry_bytes no_entry l

abbrev pub operations_bytes : List Operation → List ℕ
operations_bytes l = list_bytes operation_bytes no_operation l

-- kind 3: bytes for the type and the three counts, "then the lists", each after the one before it
unfoldable pub transaction_body : Transaction → List ℕ
transaction_body t =
    t.kind ∷ length t.debits ∷ length t.credits ∷ length t.operations ∷ (entries_bytes t.debits ++ (entries_bytes t.credits ++ operations_bytes t.operations))

-- numbers of 2 bytes
abbrev pub numbers_bytes : List ℕ → List ℕ
numbers_bytes l = list_bytes (le_bytes 2) 0 l

-- of a cut the first m entries are written
abbrev pub cut_bytes : ℕ → List ℕ → List ℕ
cut_bytes m cut = numbers_bytes (tabulate m (λ j. get_or cut j 0))

-- "instance (2), sequence number (2), rank (4), count (2, ..)"
abbrev pub fixed_bytes : Block → ℕ → List ℕ
fixed_bytes b count = le_bytes 2 b.instance ++ (le_bytes 2 b.sequence.0 ++ (le_bytes 4 b.rank.0 ++ le_bytes 2 count))

-- kind 4: these, "m cut entries (2 each), count transaction numbers (2 each)"
unfoldable pub block_body : ℕ → Block → List ℕ → List ℕ
block_body m b cites = fixed_bytes b (length cites) ++ (cut_bytes m b.cut ++ numbers_bytes cites)

-- "of which the first m are used and the others are 0": an entry of a cut that is not used is 0, so that what is not written is known
abbrev pub unused_zero : ℕ → ℕ → ℕ → Bool
unused_zero m j v = pick (ltb j m) true (eqb v 0)

unfoldable pub cut_ok : ℕ → List ℕ → Bool
cut_ok m cut = all_to 16 (λ j. unused_zero m j (get_or cut j 0))
