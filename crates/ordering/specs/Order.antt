-- The order of blocks: keys, the bar and the global log (document 01, "Global log of a view"), over ranks alone.
-- R i n is the rank of block n (from 0) of instance i, F i the number of blocks of instance i in the view, m the number of instances.
-- Assumes nothing.
use Rattle.std.specs.Prelude.{◌%◌, ◌*◌, ◌+◌, ◌-◌, ◌/◌, suc, zero, ℕ, eqb, ltb, List, [], ◌++◌, map}
use Rattle.sums.specs.Least.{least_from}
use Rattle.sums.specs.Seq.{only, only_if}
use Rattle.sums.specs.Test.{pick}

-- a block, by its instance and its index: its sequence number less 1
pub record Ref : Type 0 where
  pub instance : ℕ
  pub index : ℕ

abbrev pub ref_of : ℕ → ℕ → Ref
ref_of i n = record { instance = i; index = n }

-- "Pairs are compared as the number rank × 16 + instance"
abbrev pub key_of : ℕ → ℕ → ℕ
key_of rank instance = rank * 16 + instance

-- what the last of an instance's first n blocks has, 0 where there is none:
-- "An instance without a block in the view now counts as having last rank 0" (request 04)
abbrev pub last_of : (ℕ → ℕ) → ℕ → ℕ
last_of f n = pick (ltb 0 n) (f (n - 1)) 0

-- what instance j allows: (its last rank + 1, j)
abbrev pub ceiling_of : (ℕ → ℕ → ℕ) → (ℕ → ℕ) → ℕ → ℕ
ceiling_of R F j = key_of (last_of (R j) (F j) + 1) j

-- the bar: the least of what the instances allow
abbrev pub bar_of : ℕ → (ℕ → ℕ → ℕ) → (ℕ → ℕ) → ℕ
bar_of m R F = least_from (ceiling_of R F 0) (ceiling_of R F) m

-- the numbers below n at which f is r, ascending
unfoldable pub seek : (ℕ → ℕ) → ℕ → ℕ → List ℕ
seek f r zero = []
seek f r (suc n) = seek f r n ++ only (eqb (f n) r) n

-- the blocks of the view whose key is k
unfoldable pub entry_at : ℕ → (ℕ → ℕ → ℕ) → (ℕ → ℕ) → ℕ → List Ref
entry_at m R F k = only_if (ltb (k % 16) m) (map (ref_of (k % 16)) (seek (R (k % 16)) (k / 16) (F (k % 16))))

-- the blocks of the view with a key below k, ascending
unfoldable pub log_to : ℕ → (ℕ → ℕ → ℕ) → (ℕ → ℕ) → ℕ → List Ref
log_to m R F zero = []
log_to m R F (suc k) = log_to m R F k ++ entry_at m R F k

-- "The log is every block of the view below the bar, ascending"
unfoldable pub global_log : ℕ → (ℕ → ℕ → ℕ) → (ℕ → ℕ) → List Ref
global_log m R F = log_to m R F (bar_of m R F)
