-- Records over the front of a slice: one more, the length, and the lists that the two lists of a reading make.
-- Assumes nothing.
use Prim.Native.Nat.{◌+◌, ◌<◌, ◌≤◌, suc, zero, ℕ}
use lib.ListN.{drop, length, set, take}
use mathlib.Core.List.{List, [], ◌++◌, ◌∷◌}
use mathlib.Core.Path.{◌≡◌, ap, refl}
use native.Mathlib.Numerals.{add-one}
use native.Mathlib.Omega.{arith}
use Rattle.account_records.specs.Inner.{record_at}
use Rattle.account_records.specs.Records.{joined, over}
use Rattle.account_records.specs.declared.Account.{Account}
use Rattle.sums.specs.Seq.{fill}

pub over_none : (l xs : List Account) → over (take 0 l) xs ≡ xs
unfolding over
over_none l xs = refl

pub over-length : (l xs : List Account) → length (over l xs) ≡ length xs
unfolding over
over-length [] xs = refl
over-length (r ∷ l) [] = refl
over-length (r ∷ l) (x ∷ xs) = ap suc (over-length l xs)

over-next : (k : ℕ) (f h : List ℕ) (xs : List Account) → k < length f → k < length h → k < length xs
    → set (over (take k (joined f h)) xs) k (record_at f h k) ≡ over (take (suc k) (joined f h)) xs
unfolding over joined record_at
over-next k [] h xs p q r = absurd (omega arith)
over-next k (x ∷ f) [] xs p q r = absurd (omega arith)
over-next k (x ∷ f) (y ∷ h) [] p q r = absurd (omega arith)
over-next zero (x ∷ f) (y ∷ h) (z ∷ xs) p q r = refl
over-next (suc k) (x ∷ f) (y ∷ h) (z ∷ xs) p q r = ap (λ (l : List Account). record { free = x; held = y } ∷ l) (over-next k f h xs (omega arith) (omega arith) (omega arith))

-- one record more: place k is set
pub over-more : (k : ℕ) (f h : List ℕ) (xs : List Account) → k < length f → k < length h → k < length xs
    → set (over (take k (joined f h)) xs) k (record_at f h k) ≡ over (take (k + 1) (joined f h)) xs
over-more k f h xs p q r = rw (add-one) (over-next k f h xs p q r)

-- records over the front of a slice's front
pub over_front : (n : ℕ) (l xs : List Account) → length l ≤ n → over l (take n xs) ++ drop n xs ≡ over l xs
unfolding over
over_front zero [] xs h = refl
over_front zero (r ∷ l) xs h = absurd (omega arith)
over_front (suc n) [] [] h = refl
over_front (suc n) [] (x ∷ xs) h = ap (λ (m : List Account). x ∷ m) (over_front n [] xs (omega arith))
over_front (suc n) (r ∷ l) [] h = refl
over_front (suc n) (r ∷ l) (x ∷ xs) h = ap (λ (m : List Account). r ∷ m) (over_front n l xs (omega arith))

-- two lists, filled from the front, side by side
pub joined-filled : (f h d e : List ℕ) → length f ≡ length h → length f ≤ length d → length f ≤ length e
    → take (length f) (joined (fill f d) (fill h e)) ≡ joined f h
unfolding joined fill
joined-filled [] h d e s p q = refl
joined-filled (x ∷ f) [] d e s p q = absurd (omega arith)
joined-filled (x ∷ f) (y ∷ h) [] e s p q = absurd (omega arith)
joined-filled (x ∷ f) (y ∷ h) (u ∷ d) [] s p q = absurd (omega arith)
joined-filled (x ∷ f) (y ∷ h) (u ∷ d) (v ∷ e) s p q = ap (λ (l : List Account). record { free = x; held = y } ∷ l) (joined-filled f h d e (omega arith) (omega arith) (omega arith))
