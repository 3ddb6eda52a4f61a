-- How long bodies and frames are.
-- Assumes nothing.
use Prim.Native.Nat.{◌*◌, ◌+◌, suc, ℕ}
use lib.ListN.{length, length-append}
use mathlib.Core.List.{List}
use mathlib.Core.Path.{◌≡◌, ap, refl}
use native.Mathlib.Omega.{arith}
use Rattle.encoding.specs.Body.{balances_body, block_body, entry_bytes, frame_bytes, header_body, operation_bytes, transaction_body}
use Rattle.fields.proofs.NumberLaws.{length-le_bytes}
use Rattle.fields.proofs.RowLaws.{length_list, length-numbers}
use Rattle.fields.specs.Number.{le_bytes}
use Rattle.sums.proofs.SeqLaws.{length-tabulate}
use Rattle.transactions.specs.Content.{Entry, Operation, Transaction, no_entry, no_operation}
use Rattle.frames.specs.declared.block.Block.{Block}
use Rattle.frames.specs.declared.header.Header.{Header}

-- rows of the lists
pub entry_long : (e : Entry) → length (entry_bytes e) ≡ 6
entry_long e = simp (length-append, length-le_bytes) refl

pub operation_long : (o : Operation) → length (operation_bytes o) ≡ 6
operation_long o = ap (λ (n : ℕ). suc (suc n)) (length-le_bytes 4 o.value)

-- lengths
pub length-balances : (l : List ℕ) → length (balances_body l) ≡ 8 * length l
unfolding balances_body
length-balances l = length-numbers 8 l

pub length-transaction : (t : Transaction) → length (transaction_body t) ≡ 4 + 6 * length t.debits + 6 * length t.credits + 6 * length t.operations
unfolding transaction_body
length-transaction t = simp (length-append, length_list 6 entry_bytes no_entry entry_long, length_list 6 operation_bytes no_operation operation_long) (omega arith)

pub length-block : (m : ℕ) (b : Block) (cites : List ℕ) → length (block_body m b cites) ≡ 10 + 2 * m + 2 * length cites
unfolding block_body
length-block m b cites = simp (length-append, length-le_bytes, length-numbers, length-tabulate) (omega arith)

pub header_long : (h : Header) → length (header_body h) ≡ 8
unfolding header_body le_bytes
header_long h = refl

pub length-frame : (kind : ℕ) (body : List ℕ) → length (frame_bytes kind body) ≡ 6 + length body
unfolding frame_bytes
length-frame kind body = simp (length-append, length-le_bytes) (omega arith)
