-- The starting balances (document 01, kind 2: starts).
-- Assumes nothing.
use Rattle.std.specs.Prelude.{◌*◌, ℕ, eqb, leb, get_or, length, Bool, not, List, Ok, Err}
use Rattle.fields.specs.Number.{le}
use Rattle.sums.specs.Seq.{tabulate}
use Rattle.sums.specs.Test.{all_to, pick}
use Rattle.refusals.specs.Refusals.{Checked}
use Rattle.refusals.specs.declared.Refusal.TheVariants.{BodyLength, OutOfRange}

-- "each at most 2^40"
unfoldable pub balances_ok : List ℕ → Bool
balances_ok l = all_to (length l) (λ k. leb (get_or l k 0) 1099511627776)

-- "a balances of 8 bytes"
unfoldable pub balances_of : ℕ → List ℕ → List ℕ
balances_of a b = tabulate a (λ k. le 8 b (8 * k))

-- refusals 4 ("8 × a for starts") and 5, of a frame at the offset at
unfoldable pub check_balances : List ℕ → ℕ → ℕ → Checked
check_balances b at a =
    pick (not (eqb (length b) (8 * a))) (Err (BodyLength at))
    (pick (balances_ok (balances_of a b)) (Ok tt) (Err (OutOfRange at)))
