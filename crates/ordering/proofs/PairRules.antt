-- The theorem on the comparison of pairs (request 06).
-- Assumes nothing.
use Prim.Native.Nat.{◌<◌, ℕ}
use mathlib.Core.Logic.{◌↔◌, ◌⊎◌, inl, inr}
use mathlib.Core.Path.{◌∙◌, ◌≡◌, ap, sym, refl}
use native.Mathlib.Omega.{arith}
use Rattle.std.specs.declared.cmp.Ordering.{Ordering}
use Rattle.std.specs.declared.cmp.Ordering.TheVariants.{Equal, Greater, Less}
use Rattle.ordering.specs.declared.pair.Pair.{Pair}
use Rattle.ordering.specs.Claim.{PairRules}
use Rattle.ordering.specs.Pairs.{compared, number_of}
use Rattle.ordering.proofs.Cases.{bar-number, by_cases, equal_pairs, higher_instance, higher_rank, lower_instance, lower_rank}

-- the answers are three
abbrev place_of : Ordering → ℕ
place_of Less = 0
place_of Greater = 1
place_of Equal = 2

module _ {A : Type 0} where
  not_after : Greater ≡ Less → A
  not_after e = absurd (omega (arith, ap place_of e))

  not_neither : Equal ≡ Less → A
  not_neither e = absurd (omega (arith, ap place_of e))

  neither-after : Equal ≡ Greater → A
  neither-after e = absurd (omega (arith, ap place_of e))

module _ (p q : Pair) (a : p.instance < 16) (b : q.instance < 16) where
  first : (compared p q ≡ Less) ↔ (number_of p < number_of q)
  first = by_cases p q (λ c. (c ≡ Less) ↔ (number_of p < number_of q))
      (λ h. (λ e. omega arith, λ l. refl))
      (λ h. (λ e. not_after e, λ l. absurd (omega arith)))
      (λ k h. (λ e. omega arith, λ l. refl))
      (λ k h. (λ e. not_after e, λ l. absurd (omega arith)))
      (λ k h. (λ e. not_neither e, λ l. absurd (omega arith)))

  after : (compared p q ≡ Greater) ↔ (number_of q < number_of p)
  after = by_cases p q (λ c. (c ≡ Greater) ↔ (number_of q < number_of p))
      (λ h. (λ e. not_after (sym e), λ l. absurd (omega arith)))
      (λ h. (λ e. omega arith, λ l. refl))
      (λ k h. (λ e. not_after (sym e), λ l. absurd (omega arith)))
      (λ k h. (λ e. omega arith, λ l. refl))
      (λ k h. (λ e. neither-after e, λ l. absurd (omega arith)))

  neither : (compared p q ≡ Equal) ↔ (number_of p ≡ number_of q)
  neither = by_cases p q (λ c. (c ≡ Equal) ↔ (number_of p ≡ number_of q))
      (λ h. (λ e. not_neither (sym e), λ l. absurd (omega arith)))
      (λ h. (λ e. neither-after (sym e), λ l. absurd (omega arith)))
      (λ k h. (λ e. not_neither (sym e), λ l. absurd (omega arith)))
      (λ k h. (λ e. neither-after (sym e), λ l. absurd (omega arith)))
      (λ k h. (λ e. omega arith, λ l. refl))

module _ (p q : Pair) where
  turned : (compared p q ≡ Less) ↔ (compared q p ≡ Greater)
  turned = by_cases p q (λ c. (c ≡ Less) ↔ (compared q p ≡ Greater))
      (λ h. (λ e. sym (higher_rank q p h), λ l. refl))
      (λ h. (λ e. not_after e, λ l. not_after (sym (lower_rank q p h ∙ l))))
      (λ k h. (λ e. sym (higher_instance q p (sym k) h), λ l. refl))
      (λ k h. (λ e. not_after e, λ l. not_after (sym (lower_instance q p (sym k) h ∙ l))))
      (λ k h. (λ e. not_neither e, λ l. neither-after (equal_pairs q p (sym k) (sym h) ∙ l)))

  equal : (compared p q ≡ Equal) ↔ ((p.rank ≡ q.rank) × (p.instance ≡ q.instance))
  equal = by_cases p q (λ c. (c ≡ Equal) ↔ ((p.rank ≡ q.rank) × (p.instance ≡ q.instance)))
      (λ h. (λ e. not_neither (sym e), λ l. absurd (omega (arith, l.0))))
      (λ h. (λ e. neither-after (sym e), λ l. absurd (omega (arith, l.0))))
      (λ k h. (λ e. not_neither (sym e), λ l. absurd (omega (arith, l.1))))
      (λ k h. (λ e. neither-after (sym e), λ l. absurd (omega (arith, l.1))))
      (λ k h. (λ e. (k, h), λ l. refl))

  -- why one comes first
  because : compared p q ≡ Less → (p.rank < q.rank) ⊎ ((p.rank ≡ q.rank) × (p.instance < q.instance))
  because = by_cases p q (λ c. c ≡ Less → (p.rank < q.rank) ⊎ ((p.rank ≡ q.rank) × (p.instance < q.instance)))
      (λ h e. inl h) (λ h e. not_after e) (λ k h e. inr (k, h)) (λ k h e. not_after e) (λ k h e. not_neither e)

chain : (p q s : Pair) → compared p q ≡ Less → compared q s ≡ Less → compared p s ≡ Less
chain p q s a b = go (because p q a) (because q s b)
  where
    go : (p.rank < q.rank) ⊎ ((p.rank ≡ q.rank) × (p.instance < q.instance)) → (q.rank < s.rank) ⊎ ((q.rank ≡ s.rank) × (q.instance < s.instance))
        → compared p s ≡ Less
    go (inl h) (inl l) = sym (lower_rank p s (omega arith))
    go (inl h) (inr l) = sym (lower_rank p s (omega (arith, l.0)))
    go (inr h) (inl l) = sym (lower_rank p s (omega (arith, h.0)))
    go (inr h) (inr l) = sym (lower_instance p s (omega (arith, h.0, l.0)) (omega (arith, h.1, l.1)))

pub pair_rules : PairRules
pair_rules = record { first = first; after = after; neither = neither; turned = turned; equal = equal; chain = chain; bar = λ m R F none. bar-number R F none m }
