-- Comparisons of pairs, and bars as pairs, computed.
-- Assumes nothing.
use mathlib.Core.List.{[], ◌∷◌}
use mathlib.Core.Path.{◌≡◌, refl}
use Rattle.std.specs.declared.cmp.Ordering.TheVariants.{Equal, Greater, Less}
use Rattle.ordering.specs.Pairs.{bar_pair, compared, first_of, pair_of}
use Rattle.ordering.specs.Table.{count_in, rank_in}
use Rattle.sums.specs.Fold.{fold_to}
use Rattle.sums.specs.Test.{pick}

-- "a lower rank comes first, a higher rank comes after", whatever the instances
pub lower_comes_first : compared (pair_of 1 15) (pair_of 2 0) ≡ Less
unfolding compared pick
lower_comes_first = refl

pub higher_comes_after : compared (pair_of 2 0) (pair_of 1 15) ≡ Greater
unfolding compared pick
higher_comes_after = refl

-- "at equal ranks the lower instance comes first"
pub instance_comes_first : compared (pair_of 4 0) (pair_of 4 1) ≡ Less
unfolding compared pick
instance_comes_first = refl

pub instance_comes_after : compared (pair_of 4 1) (pair_of 4 0) ≡ Greater
unfolding compared pick
instance_comes_after = refl

-- "of two equal pairs neither does"
pub equal_is_neither : compared (pair_of 4 1) (pair_of 4 1) ≡ Equal
unfolding compared pick
equal_is_neither = refl

-- 2^32, which only the bar's rank can be, is above every rank
pub highest_comes_first : compared (pair_of 4294967295 15) (pair_of 4294967296 0) ≡ Less
unfolding compared pick
highest_comes_first = refl

-- with an instance above 15, which no sheet has, the numbers of (0, 16) and (1, 0) are the same, and the answer is still by cases
pub past-sixteen : compared (pair_of 0 16) (pair_of 1 0) ≡ Less
unfolding compared pick
past-sixteen = refl

-- document 01's edge: of the last blocks (3, 0) and (2, 1) the bar is (3, 1)
pub bar_of_two : bar_pair 2 (λ i n. rank_in (3 ∷ 2 ∷ []) 0 i) (count_in (1 ∷ 1 ∷ [])) ≡ pair_of 3 1
unfolding fold_to first_of compared pick
bar_of_two = refl

-- the highest rank that a block can have: the bar's is 2^32
pub bar_of_the_highest : bar_pair 1 (λ i n. 4294967295) (count_in (1 ∷ [])) ≡ pair_of 4294967296 0
unfolding fold_to first_of compared pick
bar_of_the_highest = refl
