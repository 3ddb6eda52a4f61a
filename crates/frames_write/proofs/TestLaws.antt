-- What `all` over a list answers, as a test of each place.
-- Assumes nothing.
use Prim.Native.Nat.{◌+◌, ◌<◌, ◌≤◌, ℕ}
use borrow.Author.Tests.{eq-eqb, le-leb, le-ltb, lt-leb, ltb-false, ne_eqb}
use lib.Dec.{leb, ltb}
use lib.ListN.{get_or, length}
use mathlib.Core.Bool.{Bool, false, true}
use mathlib.Core.List.{List}
use mathlib.Core.Path.{◌≡◌, refl, sym}
use native.Mathlib.Omega.{arith}
use Rattle.encoding.specs.Body.{unused_zero}
use Rattle.std.proofs.lemmas.List.FromFn.{get_or-enumerate_from, length-enumerate_from}
use Rattle.std.specs.Bool.{MatchBool}
use Rattle.std.specs.List.{AllWithin, HoldsAt, enumerate_from}
use Rattle.sums.proofs.LoopLaws.{all_to_not}
use Rattle.sums.proofs.TestLaws.{all_to_each, by-pick, passed}
use Rattle.sums.specs.Test.{all_to, pick}

-- each number is at most m
pub all_at_most : (m : ℕ) (l : List ℕ) (r : Bool) → MatchBool r (AllWithin (λ x. x ≤ m) l 0 (length l)) ((k : ℕ) × (k < length l) × HoldsAt (λ x. m < x) l k)
    → r ≡ all_to (length l) (λ k. leb (get_or l k 0) m)
all_at_most m l true h = sym (all_to_each (length l) _ (λ k lt. le-leb _ _ (h k 0 (omega arith) lt)))
all_at_most m l false h = sym (all_to_not (length l) h.0 _ h.1 (lt-leb _ _ (h.2 0)))

at_place : (P : ℕ × ℕ → Type 0) (l : List ℕ) (k : ℕ) → k < length l → P (get_or (enumerate_from 0 l) k (0, 0)) → P (k, get_or l k 0)
at_place P l k lt h = let zero : 0 + k ≡ k = omega arith in rw (get_or-enumerate_from 0 l k (0, 0) lt, zero) at h

-- an entry of a cut that is not used is 0
entry_fine : (m j v : ℕ) → (m ≤ j → v ≡ 0) → unused_zero m j v ≡ true
unfolding pick
entry_fine m j v h = by-pick (λ b. b ≡ true) (ltb j m) (λ e. refl) (λ e. eq-eqb v 0 (h (ltb-false j m e)))

entry_left : (m j v : ℕ) → m ≤ j → (v ≡ 0 → ⊥) → unused_zero m j v ≡ false
entry_left m j v h n = passed _ (le-ltb j m h) (ne_eqb v 0 n)

pub all_unused : (m : ℕ) (l : List ℕ) (n : ℕ) (r : Bool) → length l ≡ n
    → MatchBool r (AllWithin (λ (p : ℕ × ℕ). m ≤ p.0 → p.1 ≡ 0) (enumerate_from 0 l) 0 (length (enumerate_from 0 l)))
    ((k : ℕ) × (k < length (enumerate_from 0 l)) × HoldsAt (λ (p : ℕ × ℕ). (m ≤ p.0) × (p.1 ≡ 0 → ⊥)) (enumerate_from 0 l) k)
    → r ≡ all_to n (λ j. unused_zero m j (get_or l j 0))
all_unused m l n true long h =
    sym (all_to_each n _ (λ j lt. entry_fine m j _ (at_place (λ (p : ℕ × ℕ). m ≤ p.0 → p.1 ≡ 0) l j (omega arith) (h j (0, 0) (omega arith) (omega (arith, length-enumerate_from 0 l))))))
all_unused m l n false long h =
    let lt : h.0 < length l = omega (arith, h.1, length-enumerate_from 0 l) in
    let left = at_place (λ (p : ℕ × ℕ). (m ≤ p.0) × (p.1 ≡ 0 → ⊥)) l h.0 lt (h.2 (0, 0)) in
    sym (all_to_not n h.0 _ (omega arith) (entry_left m h.0 _ left.0 left.1))
