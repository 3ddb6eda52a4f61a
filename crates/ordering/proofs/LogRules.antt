-- What is claimed of bar and log, put together.
-- Assumes nothing.
use Prim.Native.Nat.{◌%◌, ◌-◌, ◌<◌, ◌≤◌, min, ℕ}
use mathlib.Core.List.{[], ◌++◌, ◌∷◌, map}
use mathlib.Core.Path.{◌∙◌, ◌≡◌, ap, ap₂}
use native.Mathlib.Decide.{dec_lt, ℕ_discrete}
use native.Mathlib.Omega.{arith}
use Rattle.ordering.proofs.Laws.{ceiling_none, ceiling_some, entry-none, last_none, last_some, log-more, log-quiet, seek-one}
use Rattle.ordering.proofs.Log.{log-ascending, log-once}
use Rattle.ordering.proofs.LogSum.{log-size}
use Rattle.ordering.proofs.Prefix.{all-log, bar_is, bar-le, climbs_ascends, log-begins}
use Rattle.ordering.proofs.Usable.{climb_climbs, usable_grows}
use Rattle.ordering.proofs.Whole.{log-empty}
use Rattle.ordering.specs.Claim.{LogOf, LogRules}
use Rattle.ordering.specs.Order.{bar_of, entry_at, global_log, log_to, ref_of}
use Rattle.ordering.specs.Table.{Climbs}
use Rattle.sums.specs.Least.{least_from}

views : (m : ℕ) (R : ℕ → ℕ → ℕ) (F : ℕ → ℕ) → 0 < m → m ≤ 16 → ((j : ℕ) → j < m → Climbs (R j) (F j)) → LogOf m R F
views m R F some small up = record {
  bar-some = bar_is m R F some;
  bar_least = bar-le m R F;
  below = all-log m R F _ (λ i n l u h. (l, u, h));
  once = log-once m small R F;
  ascending = log-ascending m R F (λ j l. climbs_ascends (R j) (F j) (up j l));
  size = log-size m small R F;
  nothing = log-empty m R F;
  lowest = λ e l z some_below.
      let (j, u, is) = bar_is m R F some in
      let w = bar-le m R F e l in
      let none = last_none (R e) (F e) (omega arith) in
      elim (dec_lt j e) [
        | yes k ↦
            let h = some_below j k in
            omega (arith, up j u (F j - 1) (omega arith), last_some (R j) (F j) h)
        | no k ↦ omega arith
      ];
  silent = λ e l z. all-log m R F _
      (λ i n a u h.
      let w = bar-le m R F e l in
      let none = last_none (R e) (F e) (omega arith) in
      let above = up i a n u in
      (omega arith, omega arith));
  begins = λ G more climbs. log-begins m R F G some more climbs;
}

-- instance 0 at rank 1, instance 1 empty
module _ (R : ℕ → ℕ → ℕ) (F : ℕ → ℕ) (one : F 0 ≡ 1) (first : R 0 0 ≡ 1) (none : F 1 ≡ 0) where
  bar_17 : bar_of 2 R F ≡ 17
  unfolding least_from
  bar_17 =
      let e : R 0 (F 0 - 1) ≡ R 0 0 = ap (R 0) (omega arith) in
      omega (arith, e, ceiling_some R F 0 (omega arith), ceiling_none R F 1 (omega arith))

  below_16 : (x : ℕ) → x < 16 → entry_at 2 R F x ≡ []
  below_16 x l = entry-none 2 R F x (λ n a u e. elim (ℕ_discrete (x % 16) 0) [
    | yes z ↦ let k : n ≡ 0 = omega (arith, ap F z) in omega (arith, ap₂ R z k)
    | no z ↦ omega (arith, ap F (let k : x % 16 ≡ 1 = omega arith in k))
  ])

  at_16 : entry_at 2 R F 16 ≡ ref_of 0 0 ∷ []
  unfolding entry_at
  at_16 = ap (map (ref_of 0)) (seek-one (R 0) 1 (F 0) 0 (omega arith) first (λ k a b. omega arith))

  log_17 : global_log 2 R F ≡ ref_of 0 0 ∷ []
  unfolding global_log log_to
  log_17 = ap (log_to 2 R F) bar_17 ∙ log-more 2 R F 16 ∙ ap₂ ◌++◌ (log-quiet 2 R F 0 16 (omega arith) (λ x a l. below_16 x l)) at_16

pub log_rules : LogRules
log_rules = record {
  views = views;
  tables = λ R F j. climb_climbs (R j) (min (F j) 128);
  tables_grow = usable_grows;
  example = λ R F a b c. (bar_17 R F a b c, log_17 R F a b c);
}
