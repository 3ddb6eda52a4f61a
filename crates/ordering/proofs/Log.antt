-- "The log is every block of the view below the bar, ascending": each is there exactly once, and keys rise from block to block.
-- Assumes nothing.
use Prim.Native.Nat.{◌%◌, ◌+◌, ◌/◌, ◌<◌, ◌≤◌, suc, zero, ℕ}
use borrow.Author.Tests.{eqb-true, lt-ltb, ltb-true}
use lib.Dec.{eqb, ltb}
use mathlib.Core.Bool.{Bool, false, true}
use mathlib.Core.List.{List, [], ◌++◌, ◌∷◌, map}
use mathlib.Core.Path.{◌∙◌, ◌≡◌, ap, refl}
use native.Mathlib.Omega.{arith}
use Rattle.ordering.proofs.LogSum.{log-sum, log_sum}
use Rattle.ordering.proofs.Prefix.{Ascends, all-entry, all-seek, all-to}
use Rattle.ordering.specs.Claim.{Ascending, key_in, times_in}
use Rattle.ordering.specs.Order.{Ref, bar_of, entry_at, global_log, key_of, log_to, ref_of, seek}
use Rattle.sums.proofs.SeqLaws.{all_append, all_map}
use Rattle.sums.proofs.SumLaws.{sum_ext}
use Rattle.sums.proofs.TestLaws.{given-given, given_true, sum_given, sum_only}
use Rattle.sums.specs.Seq.{All, only, only_if}
use Rattle.sums.specs.Sum.{sum_to}
use Rattle.sums.specs.Test.{given}

times_sum : (i n : ℕ) (l : List Ref) → times_in i n l ≡ log_sum (λ j k. given (eqb i j) (given (eqb n k) 1)) l
unfolding times_in log_sum
times_sum i n [] = refl
times_sum i n (b ∷ l) = ap (λ (k : ℕ). given (eqb i b.instance) (given (eqb n b.index) 1) + k) (times_sum i n l)

pub log-once : (m : ℕ) → m ≤ 16 → (R : ℕ → ℕ → ℕ) (F : ℕ → ℕ) (i n : ℕ) → i < m → n < F i → key_of (R i n) i < bar_of m R F
    → times_in i n (global_log m R F) ≡ 1
log-once m small R F i n l h b =
    times_sum i n (global_log m R F)
    ∙ log-sum m small R F (λ j k. given (eqb i j) (given (eqb n k) 1))
    ∙ sum_ext m _ _ (λ j u. sum_ext (F j) _ _ (λ k w. given-given _ (eqb i j) _) ∙ sum_given (eqb i j) (F j) _)
    ∙ sum_only m (λ j. sum_to (F j) (λ k. given (ltb (key_of (R j k) j) (bar_of m R F)) (given (eqb n k) 1))) i
    ∙ given_true _ _ (lt-ltb i m l)
    ∙ sum_ext (F i) _ _ (λ k w. given-given _ (eqb n k) 1)
    ∙ sum_only (F i) (λ k. given (ltb (key_of (R i k) i) (bar_of m R F)) 1) n
    ∙ given_true _ _ (lt-ltb n (F i) h)
    ∙ given_true _ _ (lt-ltb _ _ b)

ascending-append : {A : Type 0} (key : A → ℕ) (l l' : List A) → Ascending key l → Ascending key l' → All (λ x. All (λ y. key x < key y) l') l
    → Ascending key (l ++ l')
ascending-append key [] l' a b c = b
ascending-append key (x ∷ l) l' a b c = (all_append (λ y. key x < key y) l l' a.0 c.0, ascending-append key l l' a.1 b c.1)

ascending-map : {A B : Type 0} (key : B → ℕ) (f : A → B) (l : List A) → Ascending (λ x. key (f x)) l → Ascending key (map f l)
ascending-map key f [] a = tt
ascending-map key f (x ∷ l) a = (all_map (λ y. key (f x) < key y) f l a.0, ascending-map key f l a.1)

ascending-only : (key : ℕ → ℕ) (t : Bool) (n : ℕ) → Ascending key (only t n)
ascending-only key true n = (tt, tt)
ascending-only key false n = tt

-- ranks rise, so that a rank is found once at most
ascending-seek : (key f : ℕ → ℕ) (r n : ℕ) → Ascends f n → Ascending key (seek f r n)
unfolding seek
ascending-seek key f r zero up = tt
ascending-seek key f r (suc n) up =
    ascending-append key (seek f r n) (only (eqb (f n) r) n) (ascending-seek key f r n (λ p q l h. up p q l (omega arith))) (ascending-only key (eqb (f n) r) n)
    (all-seek (λ x. All (λ y. key x < key y) (only (eqb (f n) r) n)) f r n (λ k l e. go k l e (eqb (f n) r) refl))
  where
    go : (k : ℕ) → k < n → f k ≡ r → (t : Bool) → eqb (f n) r ≡ t → All (λ y. key k < key y) (only t n)
    go k l e true q = absurd (omega (arith, up k n l (omega arith), eqb-true (f n) r q))
    go k l e false q = tt

module _ (m : ℕ) (R : ℕ → ℕ → ℕ) (F : ℕ → ℕ) (up : (j : ℕ) → j < m → Ascends (R j) (F j)) where
  ascending-entry : (x : ℕ) → Ascending (key_in R) (entry_at m R F x)
  unfolding entry_at
  ascending-entry x = go (ltb (x % 16) m) refl
    where
      go : (t : Bool) → ltb (x % 16) m ≡ t → Ascending (key_in R) (only_if t (map (ref_of (x % 16)) (seek (R (x % 16)) (x / 16) (F (x % 16)))))
      go true e =
          ascending-map (key_in R) (ref_of (x % 16)) (seek (R (x % 16)) (x / 16) (F (x % 16)))
          (ascending-seek (λ n. key_in R (ref_of (x % 16) n)) (R (x % 16)) (x / 16) (F (x % 16)) (up (x % 16) (ltb-true (x % 16) m e)))
      go false e = tt

  ascending_to : (k : ℕ) → Ascending (key_in R) (log_to m R F k)
  unfolding log_to
  ascending_to zero = tt
  ascending_to (suc k) =
      ascending-append (key_in R) (log_to m R F k) (entry_at m R F k) (ascending_to k) (ascending-entry k)
      (all-to m R F (λ b. All (λ c. key_in R b < key_in R c) (entry_at m R F k)) k (λ i n a h u. all-entry m R F (λ c. key_of (R i n) i < key_in R c) k (λ i' n' a' h' e. omega arith)))

  pub log-ascending : Ascending (key_in R) (global_log m R F)
  unfolding global_log
  log-ascending = ascending_to (bar_of m R F)
