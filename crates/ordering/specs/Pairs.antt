-- Pairs of a rank and an instance, compared by cases (request 06, after section 4.2 of source document 001), and the bar as a pair.
-- Assumes nothing.
use Rattle.std.specs.Prelude.{◌+◌, ℕ, ltb, Bool, false, true}
use Rattle.std.specs.declared.cmp.Ordering.{Ordering}
use Rattle.std.specs.declared.cmp.Ordering.TheVariants.{Equal, Greater, Less}
use Rattle.ordering.specs.declared.pair.Pair.{Pair}
use Rattle.ordering.specs.Order.{key_of, last_of}
use Rattle.sums.specs.Fold.{fold_to}
use Rattle.sums.specs.Test.{pick}

abbrev pub pair_of : ℕ → ℕ → Pair
pair_of r i = record { rank = r; instance = i }

-- the number as which document 01 compares a pair
abbrev pub number_of : Pair → ℕ
number_of p = key_of p.rank p.instance

-- "a lower rank comes first, a higher rank comes after, at equal ranks the lower instance comes first, and of two equal pairs neither does"
unfoldable pub compared : Pair → Pair → Ordering
compared p q =
    pick (ltb p.rank q.rank) Less
    (pick (ltb q.rank p.rank) Greater
    (pick (ltb p.instance q.instance) Less
    (pick (ltb q.instance p.instance) Greater Equal)))

abbrev pub is_first : Ordering → Bool
is_first Less = true
is_first Greater = false
is_first Equal = false

-- the one of two pairs that comes first
unfoldable pub first_of : Pair → Pair → Pair
first_of p q = pick (is_first (compared q p)) q p

-- of b and the pairs f 0 to f (n - 1), the one that comes first
abbrev pub first_from : Pair → (ℕ → Pair) → ℕ → Pair
first_from b f n = fold_to n (λ j p. first_of p (f j)) b

-- what instance j allows, as a pair: (its last rank + 1, j)
abbrev pub ceiling_pair : (ℕ → ℕ → ℕ) → (ℕ → ℕ) → ℕ → Pair
ceiling_pair R F j = pair_of (last_of (R j) (F j) + 1) j

-- the bar as a pair: the first of what the instances allow
abbrev pub bar_pair : ℕ → (ℕ → ℕ → ℕ) → (ℕ → ℕ) → Pair
bar_pair m R F = first_from (ceiling_pair R F 0) (ceiling_pair R F) m
