-- What the inner functions of the merge promise each other; no promise to a caller rests on it.
-- Assumes nothing.
use Rattle.std.specs.Prelude.{◌*◌, ◌+◌, ◌-◌, min, ℕ, ltb, get_or, List}
use Rattle.ordering.specs.declared.pair.Pair.{Pair}
use Rattle.ordering.specs.Pairs.{first_from, pair_of}
use Rattle.sums.specs.Test.{pick}

-- the pair of the next block of instance j behind a cursor, or the bar b where there is none
abbrev pub next_pair : (ℕ → ℕ → ℕ) → (ℕ → ℕ) → Pair → (ℕ → ℕ) → ℕ → Pair
next_pair R F b C j = pick (ltb (C j) (F j)) (pair_of (R j (C j)) j) b

-- of b and the pairs of group g, f (4g) to f (4g + 3) as far as they are among the first m, the one that comes first
abbrev pub group_first : Pair → (ℕ → Pair) → ℕ → ℕ → Pair
group_first b f m g = first_from b (λ a. f (g * 4 + a)) (min 4 (m - g * 4))

-- pair g of a row, (0, 0) outside
abbrev pub pair_in : List Pair → ℕ → Pair
pair_in row g = get_or row g (pair_of 0 0)
