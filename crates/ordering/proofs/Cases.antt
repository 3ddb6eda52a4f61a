-- The comparison of pairs by cases gives what the numbers give (request 06).
-- Assumes nothing.
use Prim.Native.Nat.{◌+◌, ◌-◌, ◌<◌, ◌≤◌, min, suc, zero, ℕ}
use borrow.Author.Tests.{le-ltb, lt-ltb, ltb-false, ltb-true}
use lib.Dec.{ltb}
use mathlib.Core.Bool.{false, true}
use mathlib.Core.List.{[], ◌∷◌}
use mathlib.Core.Path.{◌∙◌, ◌≡◌, ap, ap₂, refl, sym}
use native.Mathlib.Decide.{dec_lt}
use native.Mathlib.Omega.{arith}
use Rattle.std.specs.declared.cmp.Ordering.{Ordering}
use Rattle.std.specs.declared.cmp.Ordering.TheVariants.{Equal, Greater, Less}
use Rattle.ordering.specs.declared.pair.Pair.{Pair}
use Rattle.ordering.specs.Order.{bar_of, ceiling_of, key_of}
use Rattle.ordering.specs.Inner.{next_pair}
use Rattle.ordering.specs.Pairs.{bar_pair, ceiling_pair, compared, first_from, first_of, is_first, number_of, pair_of}
use Rattle.ordering.proofs.Laws.{last_none, next-none, next-some, next_of}
use Rattle.sums.proofs.LoopLaws.{fold_turn}
use Rattle.sums.proofs.TestLaws.{by-pick}
use Rattle.sums.specs.Fold.{fold_to}
use Rattle.sums.specs.Least.{least_from}
use Rattle.sums.specs.Seq.{tabulate}
use Rattle.sums.specs.Test.{pick}

-- ---- two pairs

module _ (p q : Pair) where
  -- what holds in each of the five cases holds of the comparison
  pub by_cases : (P : Ordering → Type 0) → (p.rank < q.rank → P Less) → (q.rank < p.rank → P Greater)
      → (p.rank ≡ q.rank → p.instance < q.instance → P Less) → (p.rank ≡ q.rank → q.instance < p.instance → P Greater)
      → (p.rank ≡ q.rank → p.instance ≡ q.instance → P Equal) → P (compared p q)
  unfolding compared
  by_cases P lower higher first after same =
      by-pick P (ltb p.rank q.rank) (λ t. lower (ltb-true p.rank q.rank t)) (λ t.
      by-pick P (ltb q.rank p.rank) (λ u. higher (ltb-true q.rank p.rank u)) (λ u.
      let e : p.rank ≡ q.rank = omega (arith, ltb-false p.rank q.rank t, ltb-false q.rank p.rank u) in
      by-pick P (ltb p.instance q.instance) (λ v. first e (ltb-true p.instance q.instance v)) (λ v.
      by-pick P (ltb q.instance p.instance) (λ w. after e (ltb-true q.instance p.instance w))
      (λ w. same e (omega (arith, ltb-false p.instance q.instance v, ltb-false q.instance p.instance w))))))

-- the cases one by one, as the code meets them
module _ (p q : Pair) where
  pub lower_rank : p.rank < q.rank → Less ≡ compared p q
  lower_rank l =
      by_cases p q (λ c. Less ≡ c) (λ h. refl) (λ h. absurd (omega arith)) (λ e h. refl) (λ e h. absurd (omega arith)) (λ e h. absurd (omega arith))

  pub higher_rank : q.rank < p.rank → Greater ≡ compared p q
  higher_rank l =
      by_cases p q (λ c. Greater ≡ c) (λ h. absurd (omega arith)) (λ h. refl) (λ e h. absurd (omega arith)) (λ e h. refl) (λ e h. absurd (omega arith))

  pub lower_instance : p.rank ≡ q.rank → p.instance < q.instance → Less ≡ compared p q
  lower_instance k l =
      by_cases p q (λ c. Less ≡ c) (λ h. refl) (λ h. absurd (omega arith)) (λ e h. refl) (λ e h. absurd (omega arith)) (λ e h. absurd (omega arith))

  pub higher_instance : p.rank ≡ q.rank → q.instance < p.instance → Greater ≡ compared p q
  higher_instance k l =
      by_cases p q (λ c. Greater ≡ c) (λ h. absurd (omega arith)) (λ h. refl) (λ e h. absurd (omega arith)) (λ e h. refl) (λ e h. absurd (omega arith))

  pub equal_pairs : p.rank ≡ q.rank → p.instance ≡ q.instance → Equal ≡ compared p q
  equal_pairs k l =
      by_cases p q (λ c. Equal ≡ c) (λ h. absurd (omega arith)) (λ h. absurd (omega arith)) (λ e h. absurd (omega arith)) (λ e h. absurd (omega arith)) (λ e h. refl)

-- ---- the first of two pairs

module _ (p q : Pair) where
  -- what holds of q where it comes first, and else of p, holds of the first
  pub of_first : (P : Pair → Type 0) → (q.rank < p.rank → P q) → (q.rank ≡ p.rank → q.instance < p.instance → P q)
      → (p.rank < q.rank → P p) → (p.rank ≡ q.rank → p.instance ≤ q.instance → P p) → P (first_of p q)
  unfolding first_of pick
  of_first P lower first higher rest =
      by_cases q p (λ c. P (pick (is_first c) q p)) lower higher first (λ e h. rest (sym e) (omega arith)) (λ e h. rest (sym e) (omega arith))

  pub first-rank : (first_of p q).rank ≤ q.rank
  first-rank = of_first (λ x. x.rank ≤ q.rank) (λ h. omega arith) (λ e h. omega arith) (λ h. omega arith) (λ e h. omega arith)

  -- up to instance 16 the first of two pairs has the lesser number
  pub first-number : p.instance ≤ 16 → q.instance ≤ 16 → number_of (first_of p q) ≡ min (number_of p) (number_of q)
  first-number a b =
      of_first (λ x. number_of x ≡ min (number_of p) (number_of q)) (λ h. omega arith) (λ e h. omega arith) (λ h. omega arith) (λ e h. omega arith)

  -- what holds of both holds of the first
  pub first-both : (P : Pair → Type 0) → P p → P q → P (first_of p q)
  first-both P a b = of_first P (λ h. b) (λ e h. b) (λ h. a) (λ e h. a)

-- where p is an instance's own, or both are the same, the answer is that of the numbers, also where q is (1, 16)
pub first_below : (p q : Pair) → p.instance < 16 → q.instance ≤ 16 → is_first (compared p q) ≡ ltb (number_of p) (number_of q)
first_below p q a b =
    let less : number_of p < number_of q → true ≡ ltb (number_of p) (number_of q) = λ h. sym (lt-ltb (number_of p) (number_of q) h) in
    let not : number_of q ≤ number_of p → false ≡ ltb (number_of p) (number_of q) = λ h. sym (le-ltb (number_of p) (number_of q) h) in
    by_cases p q (λ c. is_first c ≡ ltb (number_of p) (number_of q))
    (λ h. less (omega arith)) (λ h. not (omega arith)) (λ e h. less (omega arith)) (λ e h. not (omega arith)) (λ e h. not (omega arith))

pub first_self : (p : Pair) → is_first (compared p p) ≡ ltb (number_of p) (number_of p)
first_self p = ap is_first (sym (equal_pairs p p refl refl)) ∙ sym (le-ltb (number_of p) (number_of p) (omega arith))

-- ---- the first of a row of pairs

-- what holds of all holds of the first
pub firsts_all : (P : Pair → Type 0) (b : Pair) (f : ℕ → Pair) (n : ℕ) → P b → ((j : ℕ) → j < n → P (f j)) → P (first_from b f n)
unfolding fold_to
firsts_all P b f zero s h = s
firsts_all P b f (suc n) s h = first-both (first_from b f n) (f n) P (firsts_all P b f n s (λ j l. h j (omega arith))) (h n (omega arith))

-- up to instance 16 it has the least number
pub firsts_number : (b : Pair) (f : ℕ → Pair) (n : ℕ) → b.instance ≤ 16 → ((j : ℕ) → j < n → (f j).instance ≤ 16)
    → number_of (first_from b f n) ≡ least_from (number_of b) (λ j. number_of (f j)) n
unfolding fold_to least_from
firsts_number b f zero s h = refl
firsts_number b f (suc n) s h =
    first-number (first_from b f n) (f n) (firsts_all (λ p. p.instance ≤ 16) b f n s (λ j l. h j (omega arith))) (h n (omega arith))
    ∙ ap (λ (k : ℕ). min k (number_of (f n))) (firsts_number b f n s (λ j l. h j (omega arith)))

-- it hangs on the pairs alone
pub firsts_cong : (b : Pair) (f g : ℕ → Pair) (n : ℕ) → ((j : ℕ) → j < n → f j ≡ g j) → first_from b f n ≡ first_from b g n
unfolding fold_to
firsts_cong b f g zero h = refl
firsts_cong b f g (suc n) h = ap₂ first_of (firsts_cong b f g n (λ j l. h j (omega arith))) (h n (omega arith))

-- a turn of a loop that goes through the row from place p on
pub firsts_turn : (b : Pair) (f : ℕ → Pair) (p j : ℕ) (low v r : Pair) → p ≤ j → low ≡ first_from b (λ a. f (p + a)) (j - p) → v ≡ f j → r ≡ first_of low v
    → r ≡ first_from b (λ a. f (p + a)) (j + 1 - p)
firsts_turn b f p j low v r h el ev er =
    let here : j ≡ p + (j - p) = omega arith in
    let next : j + 1 - p ≡ j - p + 1 = omega arith in
    rw next (fold_turn (λ a q. first_of q (f (p + a))) (j - p) b low r el (er ∙ ap (first_of low) (ev ∙ ap f here)))

-- four pairs one after the other are the row of the four
pub four : (f : ℕ → Pair) (a b c d : Pair) → a ≡ f 0 → b ≡ f 1 → c ≡ f 2 → d ≡ f 3 → a ∷ b ∷ c ∷ d ∷ [] ≡ tabulate 4 f
unfolding tabulate
four f a b c d ea eb ec ed = rw (ea, eb, ec, ed) refl

-- ---- the bar

-- The bar of the first n instances. Only those below 16 have blocks, so that those from 16 on allow (1, 16), (1, 17) and so on, of which the first is the least;
-- a sheet has none of them
record BarTo (R : ℕ → ℕ → ℕ) (F : ℕ → ℕ) (n : ℕ) : Type 0 where
  pub number : number_of (bar_pair n R F) ≡ bar_of n R F
  pub small : (bar_pair n R F).instance ≤ 16
  pub low : 16 < n → (bar_pair n R F).rank ≤ 1

module _ (R : ℕ → ℕ → ℕ) (F : ℕ → ℕ) (none : (j : ℕ) → 16 ≤ j → F j ≡ 0) where
  ceiling_past : (j : ℕ) → 16 ≤ j → (ceiling_pair R F j).rank ≡ 1
  ceiling_past j h = ap (λ (r : ℕ). r + 1) (last_none (R j) (F j) (omega (arith, none j h)))

  bar_to : (n : ℕ) → BarTo R F n
  unfolding fold_to least_from
  bar_to zero = record { number = refl; small = omega arith; low = λ h. absurd (omega arith) }
  bar_to (suc n) = go (bar_to n) (dec_lt 16 n)
    where
      go : BarTo R F n → Dec (16 < n) → BarTo R F (suc n)
      go b (no l) = record {
        number = first-number (bar_pair n R F) (ceiling_pair R F n) b.small (omega arith) ∙ ap (λ (k : ℕ). min k (ceiling_of R F n)) b.number;
        small = first-both (bar_pair n R F) (ceiling_pair R F n) (λ p. p.instance ≤ 16) b.small (omega arith);
        low = λ h. omega (arith, first-rank (bar_pair n R F) (ceiling_pair R F n), ceiling_past n (omega arith));
      }
      go b (yes l) =
          let r = ceiling_past n (omega arith) in
          let stays : first_of (bar_pair n R F) (ceiling_pair R F n) ≡ bar_pair n R F =
          of_first (bar_pair n R F) (ceiling_pair R F n) (λ p. p ≡ bar_pair n R F)
          (λ h. absurd (omega (arith, b.low l))) (λ e h. absurd (omega (arith, b.small))) (λ h. refl) (λ e h. refl) in
          record {
            number = ap number_of stays ∙ b.number ∙ (let m : bar_of n R F ≡ min (bar_of n R F) (ceiling_of R F n) = omega (arith, b.number, b.small, b.low l) in m);
            small = omega (arith, ap (λ (p : Pair). p.instance) stays, b.small);
            low = λ h. omega (arith, ap (λ (p : Pair). p.rank) stays, b.low l);
          }

  pub bar-number : (m : ℕ) → number_of (bar_pair m R F) ≡ bar_of m R F
  bar-number m = (bar_to m).number

  pub bar_small : (m : ℕ) → (bar_pair m R F).instance ≤ 16
  bar_small m = (bar_to m).small

-- ---- the pair of an instance's next block

module _ (R : ℕ → ℕ → ℕ) (F : ℕ → ℕ) (b : Pair) (C : ℕ → ℕ) (j : ℕ) where
  -- what holds of a block's pair where there is one, and of the bar where there is none
  pub of_next : (P : Pair → Type 0) → (C j < F j → P (pair_of (R j (C j)) j)) → (F j ≤ C j → P b) → P (next_pair R F b C j)
  of_next P some none = by-pick P (ltb (C j) (F j)) (λ t. some (ltb-true (C j) (F j) t)) (λ t. none (ltb-false (C j) (F j) t))

  pub next_pair_some : C j < F j → pair_of (R j (C j)) j ≡ next_pair R F b C j
  next_pair_some h = of_next (λ p. pair_of (R j (C j)) j ≡ p) (λ l. refl) (λ l. absurd (omega arith))

  pub next_pair_none : F j ≤ C j → b ≡ next_pair R F b C j
  next_pair_none h = of_next (λ p. b ≡ p) (λ l. absurd (omega arith)) (λ l. refl)

  pub next-number : number_of (next_pair R F b C j) ≡ next_of R F (number_of b) C j
  next-number =
      of_next (λ p. number_of p ≡ next_of R F (number_of b) C j)
      (λ h. next-some R F (number_of b) C j (C j) (F j) (R j (C j)) (key_of (R j (C j)) j) refl refl h refl refl)
      (λ h. next-none R F (number_of b) C j (C j) (F j) refl refl h)
