-- What each clause of the claims on bar and log and on the comparison of pairs gives its reader. One law a clause: whoever loses a clause breaks its law.
-- Assumes nothing.
use Prim.Native.Nat.{◌+◌, ◌<◌, ◌≤◌, ℕ}
use lib.ListN.{length}
use mathlib.Core.List.{[], ◌∷◌}
use mathlib.Core.Logic.{◌↔◌}
use mathlib.Core.Path.{◌≡◌}
use Rattle.std.specs.declared.cmp.Ordering.TheVariants.{Equal, Greater, Less}
use Rattle.ordering.specs.declared.pair.Pair.{Pair}
use Rattle.ordering.specs.Claim.{Ascending, LogOf, LogRules, PairRules, key_in, times_in}
use Rattle.ordering.specs.Order.{bar_of, global_log, key_of, last_of, ref_of}
use Rattle.ordering.specs.Pairs.{bar_pair, compared, number_of}
use Rattle.ordering.specs.Table.{Climbs, usable}
use Rattle.sums.specs.Seq.{All, Begins}
use Rattle.sums.specs.Sum.{sum_to}

module _ {m : ℕ} {R : ℕ → ℕ → ℕ} {F : ℕ → ℕ} (p : LogOf m R F) where
  -- with the next law: the bar and no other number
  pub log-bar-some : (j : ℕ) × (j < m) × (bar_of m R F ≡ key_of (last_of (R j) (F j) + 1) j)
  log-bar-some = p.bar-some

  pub log-bar_least : (j : ℕ) → j < m → bar_of m R F ≤ key_of (last_of (R j) (F j) + 1) j
  log-bar_least = p.bar_least

  -- with the next two laws: these blocks, in this order, and nothing else
  pub log-below : All (λ b. (b.instance < m) × (b.index < F b.instance) × (key_in R b < bar_of m R F)) (global_log m R F)
  log-below = p.below

  pub log_holds_once : (i n : ℕ) → i < m → n < F i → key_of (R i n) i < bar_of m R F → times_in i n (global_log m R F) ≡ 1
  log_holds_once = p.once

  pub log_in_order : Ascending (key_in R) (global_log m R F)
  log_in_order = p.ascending

  pub log_no_longer : length (global_log m R F) ≤ sum_to m F
  log_no_longer = p.size

  pub log_of_nothing : ((j : ℕ) → j < m → F j ≡ 0) → global_log m R F ≡ []
  log_of_nothing = p.nothing

  -- with `log-below` and `log_holds_once`: beside empty instances, every block of rank 1 of those below all of them
  pub log-bar_of_empty : (e : ℕ) → e < m → F e ≡ 0 → ((j : ℕ) → j < e → 0 < F j) → bar_of m R F ≡ key_of 1 e
  log-bar_of_empty = p.lowest

  pub log-beside-empty : (e : ℕ) → e < m → F e ≡ 0 → All (λ b. (R b.instance b.index ≡ 1) × (b.instance < e)) (global_log m R F)
  log-beside-empty = p.silent

  pub log_goes_on : (G : ℕ → ℕ) → ((j : ℕ) → j < m → F j ≤ G j) → ((j : ℕ) → j < m → Climbs (R j) (G j)) → Begins (global_log m R F) (global_log m R G)
  log_goes_on = p.begins

module _ (p : LogRules) where
  pub rules_of_views : (m : ℕ) (R : ℕ → ℕ → ℕ) (F : ℕ → ℕ) → 0 < m → m ≤ 16 → ((j : ℕ) → j < m → Climbs (R j) (F j)) → LogOf m R F
  rules_of_views = p.views

  -- with the next law: the rules hold of whatever ranks a caller lends, and of a longer table of them, too
  pub rules_of_tables : (R : ℕ → ℕ → ℕ) (F : ℕ → ℕ) (j : ℕ) → Climbs (R j) (usable R F j)
  rules_of_tables = p.tables

  pub rules_of_growth : (R : ℕ → ℕ → ℕ) (F G : ℕ → ℕ) (j : ℕ) → F j ≤ G j → usable R F j ≤ usable R G j
  rules_of_growth = p.tables_grow

  pub rules_of_example : (R : ℕ → ℕ → ℕ) (F : ℕ → ℕ) → F 0 ≡ 1 → R 0 0 ≡ 1 → F 1 ≡ 0 → (bar_of 2 R F ≡ key_of 1 1) × (global_log 2 R F ≡ ref_of 0 0 ∷ [])
  rules_of_example = p.example

module _ (p : PairRules) where
  -- with the next two laws: up to 16 instances the comparison is that of the numbers and nothing else
  pub pairs_by_number : (a b : Pair) → a.instance < 16 → b.instance < 16 → (compared a b ≡ Less) ↔ (number_of a < number_of b)
  pairs_by_number = p.first

  pub pairs_after-number : (a b : Pair) → a.instance < 16 → b.instance < 16 → (compared a b ≡ Greater) ↔ (number_of b < number_of a)
  pairs_after-number = p.after

  pub pairs_same_number : (a b : Pair) → a.instance < 16 → b.instance < 16 → (compared a b ≡ Equal) ↔ (number_of a ≡ number_of b)
  pairs_same_number = p.neither

  -- with the next two laws: of any pairs it is an order, in which one of two that differ comes first
  pub pairs_turned : (a b : Pair) → (compared a b ≡ Less) ↔ (compared b a ≡ Greater)
  pairs_turned = p.turned

  pub pairs_equal : (a b : Pair) → (compared a b ≡ Equal) ↔ ((a.rank ≡ b.rank) × (a.instance ≡ b.instance))
  pairs_equal = p.equal

  pub pairs_chain : (a b c : Pair) → compared a b ≡ Less → compared b c ≡ Less → compared a c ≡ Less
  pairs_chain = p.chain

  pub pairs_bar : (m : ℕ) (R : ℕ → ℕ → ℕ) (F : ℕ → ℕ) → ((j : ℕ) → 16 ≤ j → F j ≡ 0) → number_of (bar_pair m R F) ≡ bar_of m R F
  pairs_bar = p.bar
