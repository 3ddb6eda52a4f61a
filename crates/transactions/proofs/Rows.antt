-- A transaction that breaks two rules gets the refusal of the first, computed.
-- Assumes nothing.
use Rattle.std.proofs.Common.{Err}
use Prim.Native.Nat.{ℕ}
use mathlib.Core.List.{[], ◌∷◌}
use mathlib.Core.Path.{◌≡◌, refl}
use Rattle.refusals.specs.declared.Refusal.TheVariants.{AccountTwice, OutOfRange}
use Rattle.sums.specs.Sum.{sum_to}
use Rattle.sums.specs.Test.{all_to, pick}
use Rattle.transactions.specs.Check.{accounts_once, balanced, counts_ok, entry_ok, in_range, judge_transaction, operation_ok}
use Rattle.transactions.specs.Content.{Transaction}

-- a payment that debits account k twice, 1 each, and credits 3 to account 0
abbrev twice : ℕ → Transaction
twice k = record {
  kind = 0;
  debits = record { account = k; amount = 1 } ∷ record { account = k; amount = 1 } ∷ [];
  credits = record { account = 0; amount = 3 } ∷ [];
  operations = [];
}

-- on a sheet of two accounts: 5 before 6, and 6 before 7
pub five_before_six : judge_transaction 20 2 0 (twice 2) ≡ Err (OutOfRange 20)
unfolding sum_to all_to pick entry_ok operation_ok counts_ok in_range accounts_once balanced judge_transaction
five_before_six = refl

pub six_before_seven : judge_transaction 20 2 0 (twice 1) ≡ Err (AccountTwice 20)
unfolding sum_to all_to pick entry_ok operation_ok counts_ok in_range accounts_once balanced judge_transaction
six_before_seven = refl
