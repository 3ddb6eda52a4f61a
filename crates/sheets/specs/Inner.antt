-- Proof tools that only the contracts of inner functions cite: no reader of the rules needs them.
-- Assumes nothing.
use Rattle.std.specs.Prelude.{ℕ, eqb, Bool, not, false, List, Option, None, Some}
use Rattle.transactions.specs.Content.{Entry}
use Rattle.sheets.specs.Operations.{Done, assigned, tested}
use Rattle.sheets.specs.Parts.{home}
use Rattle.sheets.specs.Sheet.{Sheet}
use Rattle.sums.specs.Sum.{sum_to}
use Rattle.sums.specs.Test.{any_to, given}

-- ---- entries of a list that is given by its elements

unfoldable pub entry_on : (ℕ → Entry) → ℕ → ℕ → ℕ
entry_on e k i = given (eqb (e i).account k) (e i).amount

unfoldable pub entries_on : (ℕ → Entry) → ℕ → ℕ → ℕ
entries_on e n k = sum_to n (entry_on e k)

-- entry i is on an account of instance j
unfoldable pub entry_at_home : Sheet → (ℕ → Entry) → ℕ → ℕ → Bool
entry_at_home S e j i = eqb (home S (e i).account) j

-- it is the first of the list there
unfoldable pub first_at_home : Sheet → (ℕ → Entry) → ℕ → Bool
first_at_home S e i = not (any_to i (entry_at_home S e (home S (e i).account)))

-- ---- an operation

-- the registers with what an operation leaves in register i; where it leaves nothing it did not pass, and they are as they were
abbrev pub left_in : List ℕ → ℕ → Option ℕ → Done
left_in r i (Some n) = assigned r i n
left_in r i None = tested false r
