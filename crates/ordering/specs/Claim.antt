-- What the bar and the global log are, said of every view, without the way in which Order finds them: document 01, "Global log of a view", and request 04;
-- and what the comparison of pairs gives, by whichever way it is worked: request 06.
-- Assumes nothing.
use Rattle.std.specs.Prelude.{◌+◌, ◌<◌, ◌≤◌, ℕ, eqb, length, List, [], ◌∷◌, ◌↔◌, ◌≡◌}
use Rattle.std.specs.declared.cmp.Ordering.TheVariants.{Equal, Greater, Less}
use Rattle.ordering.specs.declared.pair.Pair.{Pair}
use Rattle.ordering.specs.Order.{Ref, bar_of, global_log, key_of, last_of, ref_of}
use Rattle.ordering.specs.Pairs.{bar_pair, compared, number_of}
use Rattle.ordering.specs.Table.{Climbs, usable}
use Rattle.sums.specs.Seq.{All, Begins}
use Rattle.sums.specs.Sum.{sum_to}
use Rattle.sums.specs.Test.{given}

-- the key of a block
abbrev pub key_in : (ℕ → ℕ → ℕ) → Ref → ℕ
key_in R b = key_of (R b.instance b.index) b.instance

-- how often block n of instance i stands in a list of blocks
unfoldable pub times_in : ℕ → ℕ → List Ref → ℕ
times_in i n [] = 0
times_in i n (b ∷ l) = given (eqb i b.instance) (given (eqb n b.index) 1) + times_in i n l

-- each element's key is below those of all that follow
abbrev pub Ascending : {A : Type 0} → (A → ℕ) → List A → Type 0
Ascending key [] = Unit {0}
Ascending key (x ∷ l) = All (λ y. key x < key y) l × Ascending key l

-- the view of m instances with F j blocks of instance j, whose ranks are R j
pub record LogOf (m : ℕ) (R : ℕ → ℕ → ℕ) (F : ℕ → ℕ) : Type 0 where
  -- the bar is (last rank + 1, instance) of some instance, and of none a lower one
  pub bar-some : (j : ℕ) × (j < m) × (bar_of m R F ≡ key_of (last_of (R j) (F j) + 1) j)
  pub bar_least : (j : ℕ) → j < m → bar_of m R F ≤ key_of (last_of (R j) (F j) + 1) j
  -- "The log is every block of the view below the bar, ascending": nothing else, each once
  pub below : All (λ b. (b.instance < m) × (b.index < F b.instance) × (key_in R b < bar_of m R F)) (global_log m R F)
  pub once : (i n : ℕ) → i < m → n < F i → key_of (R i n) i < bar_of m R F → times_in i n (global_log m R F) ≡ 1
  pub ascending : Ascending (key_in R) (global_log m R F)
  pub size : length (global_log m R F) ≤ sum_to m F
  -- "A view with no blocks at all still has an empty log"
  pub nothing : ((j : ℕ) → j < m → F j ≡ 0) → global_log m R F ≡ []
  -- beside instances without a block the bar is (1, the lowest of them), and only blocks of rank 1 of lower instances are in the log
  pub lowest : (e : ℕ) → e < m → F e ≡ 0 → ((j : ℕ) → j < e → 0 < F j) → bar_of m R F ≡ key_of 1 e
  pub silent : (e : ℕ) → e < m → F e ≡ 0 → All (λ b. (R b.instance b.index ≡ 1) × (b.instance < e)) (global_log m R F)
  -- "a shorter replay's log must still be a beginning of the longer one's"
  pub begins : (G : ℕ → ℕ) → ((j : ℕ) → j < m → F j ≤ G j) → ((j : ℕ) → j < m → Climbs (R j) (G j)) → Begins (global_log m R F) (global_log m R G)

pub record LogRules : Type 0 where
  -- in every view whose ranks begin above 0 and rise, as acceptance keeps them
  pub views : (m : ℕ) (R : ℕ → ℕ → ℕ) (F : ℕ → ℕ) → 0 < m → m ≤ 16 → ((j : ℕ) → j < m → Climbs (R j) (F j)) → LogOf m R F
  -- whatever a table of ranks holds, its usable blocks are such a view: a block of rank 0, and what follows it, is none of them
  pub tables : (R : ℕ → ℕ → ℕ) (F : ℕ → ℕ) (j : ℕ) → Climbs (R j) (usable R F j)
  pub tables_grow : (R : ℕ → ℕ → ℕ) (F G : ℕ → ℕ) (j : ℕ) → F j ≤ G j → usable R F j ≤ usable R G j
  -- "With instance 0 at rank 1 and instance 1 empty the bar is (1, 1) and the block is in the log"
  pub example : (R : ℕ → ℕ → ℕ) (F : ℕ → ℕ) → F 0 ≡ 1 → R 0 0 ≡ 1 → F 1 ≡ 0 → (bar_of 2 R F ≡ key_of 1 1) × (global_log 2 R F ≡ ref_of 0 0 ∷ [])

pub record PairRules : Type 0 where
  -- "For ranks up to 2^32 and instances below 16 every answer is shown to be that of the number": here for every rank
  pub first : (p q : Pair) → p.instance < 16 → q.instance < 16 → (compared p q ≡ Less) ↔ (number_of p < number_of q)
  pub after : (p q : Pair) → p.instance < 16 → q.instance < 16 → (compared p q ≡ Greater) ↔ (number_of q < number_of p)
  pub neither : (p q : Pair) → p.instance < 16 → q.instance < 16 → (compared p q ≡ Equal) ↔ (number_of p ≡ number_of q)
  -- of any two pairs, whatever their instances: turned round the answer is the other one, and only of two equal pairs it is neither; and the order is one
  pub turned : (p q : Pair) → (compared p q ≡ Less) ↔ (compared q p ≡ Greater)
  pub equal : (p q : Pair) → (compared p q ≡ Equal) ↔ ((p.rank ≡ q.rank) × (p.instance ≡ q.instance))
  pub chain : (p q s : Pair) → compared p q ≡ Less → compared q s ≡ Less → compared p s ≡ Less
  -- the bar as a pair has the bar's number; a cut has sixteen counts
  pub bar : (m : ℕ) (R : ℕ → ℕ → ℕ) (F : ℕ → ℕ) → ((j : ℕ) → 16 ≤ j → F j ≡ 0) → number_of (bar_pair m R F) ≡ bar_of m R F
