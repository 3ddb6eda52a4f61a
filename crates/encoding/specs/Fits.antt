-- Contents whose numbers fit the fields of document 01's kinds table, as those of the code's types do.
-- Assumes nothing.
use Rattle.std.specs.Prelude.{◌<◌, ℕ, get_or, length, List, ◌≡◌}
use Rattle.transactions.specs.Content.{Transaction, entry_of, operation_of}
use Rattle.frames.specs.declared.block.Block.{Block}
use Rattle.frames.specs.declared.header.Header.{Header}

-- kind 1: 2 bytes each
pub record HeaderFits (h : Header) : Type 0 where
  pub m : h.m < 65536
  pub a : h.a < 65536
  pub g : h.g < 65536
  pub t : h.t < 65536

-- kind 2: 8 bytes each
abbrev pub BalancesFit : List ℕ → Type 0
BalancesFit l = (k : ℕ) → k < length l → get_or l k 0 < 18446744073709551616

-- kind 3: accounts of 2 bytes, amounts and values of 4. Counts, codes and registers are single bytes, and are written as they are
pub record TransactionFits (t : Transaction) : Type 0 where
  pub payer : (k : ℕ) → k < length t.debits → (entry_of t.debits k).account < 65536
  pub debit : (k : ℕ) → k < length t.debits → (entry_of t.debits k).amount < 4294967296
  pub payee : (k : ℕ) → k < length t.credits → (entry_of t.credits k).account < 65536
  pub credit : (k : ℕ) → k < length t.credits → (entry_of t.credits k).amount < 4294967296
  pub value : (k : ℕ) → k < length t.operations → (operation_of t.operations k).value < 4294967296

-- kind 4: a cut is an array of sixteen
pub record BlockFits (b : Block) (cites : List ℕ) : Type 0 where
  pub instance : b.instance < 65536
  pub sequence : b.sequence.0 < 65536
  pub rank : b.rank.0 < 4294967296
  pub entries : (j : ℕ) → get_or b.cut j 0 < 65536
  pub sixteen : length b.cut ≡ 16
  pub numbers : (k : ℕ) → get_or cites k 0 < 65536
