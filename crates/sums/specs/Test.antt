-- Choice by a test, and tests over a range.
-- Assumes nothing.
use Rattle.std.specs.Prelude.{suc, zero, ℕ, eqb, Bool, false, true}

-- the first where the test passes, else the second
unfoldable pub pick {ℓ} : {A : Type ℓ} → Bool → A → A → A
pick true a b = a
pick false a b = b

-- n where the test passes, else 0
unfoldable pub given : Bool → ℕ → ℕ
given true n = n
given false n = 0

-- one of f 0 .. f (n - 1) passes
unfoldable pub any_to : ℕ → (ℕ → Bool) → Bool
any_to zero f = false
any_to (suc n) f = pick (f n) true (any_to n f)

-- all of f 0 .. f (n - 1) pass
unfoldable pub all_to : ℕ → (ℕ → Bool) → Bool
all_to zero f = true
all_to (suc n) f = pick (f n) (all_to n f) false

-- f with v at x
abbrev pub put : {A : Type 0} → (ℕ → A) → ℕ → A → ℕ → A
put f x v y = pick (eqb y x) v (f y)

-- 1 where the test passes, else 0
abbrev pub bit : Bool → ℕ
bit true = 1
bit false = 0

-- 1 where the test does not pass, else 0
abbrev pub flip : Bool → ℕ
flip true = 0
flip false = 1

-- both tests pass
abbrev pub both : Bool → Bool → Bool
both a b = pick a b false
