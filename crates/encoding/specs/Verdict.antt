-- The writers' verdicts on the values: "The writer of a slip knows the sheet so far; it gives 3 (kind not due), 4 (a list of another length than its count), 5 (also for an unused cut entry that is not 0), 6 or 7, in that order with place 0".
-- Assumes nothing.
use Rattle.std.specs.Prelude.{ℕ, eqb, ltb, length, Bool, not, List, Ok, Err}
use Rattle.encoding.specs.Body.{cut_ok}
use Rattle.frames.specs.Balances.{balances_ok}
use Rattle.frames.specs.Header.{header_ok}
use Rattle.frames.specs.Step.{kind_due}
use Rattle.sums.specs.Test.{pick}
use Rattle.transactions.specs.Check.{judge_transaction}
use Rattle.transactions.specs.Content.{Transaction}
use Rattle.frames.specs.declared.header.Header.{Header}
use Rattle.frames.specs.declared.step.Loading.{Loading}
use Rattle.refusals.specs.Refusals.{Checked}
use Rattle.refusals.specs.declared.Refusal.TheVariants.{BodyLength, KindNotDue, OutOfRange}

-- kind 1: 3, then 5
unfoldable pub header_verdict : Loading → Header → Checked
header_verdict s h =
    pick (not (eqb (kind_due s) 1)) (Err (KindNotDue 0))
    (pick (header_ok h.m h.a h.g h.t) (Ok tt) (Err (OutOfRange 0)))

-- kind 2: 3, then 4 (a balance for each account), then 5
unfoldable pub balances_verdict : Loading → List ℕ → Checked
balances_verdict s l =
    pick (not (eqb (kind_due s) 2)) (Err (KindNotDue 0))
    (pick (not (eqb (length l) s.a)) (Err (BodyLength 0)) (pick (balances_ok l) (Ok tt) (Err (OutOfRange 0))))

-- kind 3: 3, then 4, then the reader's own judgement, 5, 6 and 7. agree says that each list is as long as its count
unfoldable pub transaction_verdict : Loading → Bool → Transaction → Checked
transaction_verdict s agree t =
    pick (not (eqb (kind_due s) 3)) (Err (KindNotDue 0))
    (pick (not agree) (Err (BodyLength 0)) (judge_transaction 0 s.a s.g t))

-- kind 4: 3, then 4 (n citations are handed over), then 5 for a count above 32 or an unused cut entry that is not 0. Instance, number, rank, cut and citations are not the writer's: their refusals, 8 to 15, are the ledger's
unfoldable pub block_verdict : Loading → List ℕ → ℕ → ℕ → Checked
block_verdict s cut count n =
    pick (not (eqb (kind_due s) 4)) (Err (KindNotDue 0))
    (pick (not (eqb n count)) (Err (BodyLength 0))
    (pick (ltb 32 count) (Err (OutOfRange 0)) (pick (cut_ok s.m cut) (Ok tt) (Err (OutOfRange 0)))))
