-- Lists by index, beginnings, and what holds throughout a list.
-- Assumes nothing.
use Rattle.std.specs.Prelude.{◌+◌, suc, zero, ℕ, set, Bool, false, true, List, [], ◌++◌, ◌∷◌, ◌≡◌}
use Rattle.sums.specs.Fold.{fold_to}

-- f 0, .., f (n - 1)
unfoldable pub tabulate : {A : Type 0} → ℕ → (ℕ → A) → List A
tabulate zero f = []
tabulate (suc n) f = tabulate n f ++ (f n ∷ [])

-- one element where the test passes, else none
abbrev pub only : {A : Type 0} → Bool → A → List A
only true a = a ∷ []
only false a = []

-- the list where the test passes, else the empty one
abbrev pub only_if : {A : Type 0} → Bool → List A → List A
only_if true l = l
only_if false l = []

-- a is a beginning of b: none of it, all of it, or something between
abbrev pub Begins : {A : Type 0} → List A → List A → Type 0
Begins {A = A} a b = (rest : List A) × (a ++ rest ≡ b)

-- P holds of every member
abbrev pub All : {A : Type 0} → (A → Type 0) → List A → Type 0
All P [] = Unit {0}
All P (x ∷ l) = P x × All P l

-- the list l written over the front of a buffer, as far as the buffer goes
unfoldable pub fill : List ℕ → List ℕ → List ℕ
fill [] d = d
fill (x ∷ l) [] = []
fill (x ∷ l) (y ∷ d) = x ∷ fill l d

-- the list with f 0 .. f (n - 1) stored from place p on, as far as it goes
unfoldable pub written : List ℕ → ℕ → ℕ → (ℕ → ℕ) → List ℕ
written l p n f = fold_to n (λ k d. set d (p + k) (f k)) l
