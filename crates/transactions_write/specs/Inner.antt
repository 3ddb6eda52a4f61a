-- Only for the contracts of inner functions.
-- Assumes nothing.
use Rattle.std.specs.Prelude.{◌*◌, ◌+◌, ℕ, length, ◌≡◌}
use Rattle.transactions_write.specs.Values.{Lists, lists}
use Rattle.transactions_write.specs.declared.Counts.{Counts}
use Rattle.transactions_write.specs.declared.lists.Lists as handed

-- what slices hold
abbrev pub lists_in : handed.Lists → Lists
lists_in l = lists l.payers.now l.debits.now l.payees.now l.credits.now l.codes.now l.registers.now l.values.now

-- how long the body of a transaction is, whose lists these are
abbrev pub members_bytes : Lists → ℕ
members_bytes l = 4 + 6 * length l.payers + 6 * length l.payees + 6 * length l.codes

-- `lists_agree` taken apart: what the body of a transaction is written under
pub record Agree (n : Counts) (l : Lists) : Type 0 where
  pub payers_long : length l.payers ≡ n.debits
  pub debits_long : length l.debits ≡ n.debits
  pub payees_long : length l.payees ≡ n.credits
  pub credits_long : length l.credits ≡ n.credits
  pub codes_long : length l.codes ≡ n.operations
  pub registers_long : length l.registers ≡ n.operations
  pub values_long : length l.values ≡ n.operations
