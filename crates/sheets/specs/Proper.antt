-- What makes a sheet proper: the ranges of the kinds table and refusals 5 to 7 of document 01, by the tests that the frames' reader makes.
-- Assumes nothing.
use Rattle.std.specs.Prelude.{eqb, length, Bool, false, true, Ok, Err}
use Rattle.sheets.specs.Sheet.{Sheet, tx_at, tx_count}
use Rattle.sums.specs.Test.{all_to, both}
use Rattle.refusals.specs.Refusals.{Checked}
use Rattle.frames.specs.Balances.{balances_ok}
use Rattle.frames.specs.Header.{header_ok}
use Rattle.transactions.specs.Check.{judge_transaction}

abbrev pub is_fine : Checked → Bool
is_fine (Ok _) = true
is_fine (Err r) = false

-- the header's numbers in range, a balance in range for each account, and no refusal of a transaction (the place that one would give is immaterial)
unfoldable pub is_proper : Sheet → Bool
is_proper S =
    both (header_ok S.m S.a S.g (tx_count S))
    (both (eqb (length S.balances) S.a)
    (both (balances_ok S.balances) (all_to (tx_count S) (λ x. is_fine (judge_transaction 0 S.a S.g (tx_at S x))))))
