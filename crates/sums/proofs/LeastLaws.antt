-- Laws of the least of a row, and of a loop that takes it.
-- Assumes nothing.
use Prim.Native.Nat.{◌+◌, ◌<◌, ◌≤◌, min, suc, zero, ℕ}
use mathlib.Core.Path.{◌∙◌, ◌≡◌, ap, ap₂, refl, sym}
use native.Mathlib.Decide.{dec_le, ℕ_discrete}
use native.Mathlib.Nat.{le_refl}
use native.Mathlib.Numerals.{add-one}
use native.Mathlib.Omega.{arith}
use Rattle.sums.specs.Least.{least_from}

pub least_more : (b : ℕ) (f : ℕ → ℕ) (n : ℕ) → least_from b f (n + 1) ≡ min (least_from b f n) (f n)
unfolding least_from
least_more b f n = rw add-one

pub least_none : (b : ℕ) (f : ℕ → ℕ) → b ≡ least_from b f 0
unfolding least_from
least_none b f = refl

-- a turn of a loop that takes the least, and its end
pub least_step : (b : ℕ) (f : ℕ → ℕ) {n low v r : ℕ} → low ≡ least_from b f n → v ≡ f n → r ≡ min low v → r ≡ least_from b f (n + 1)
least_step b f {n} el ev er = er ∙ ap₂ min el ev ∙ sym (least_more b f n)

pub least_end : (b : ℕ) (f : ℕ → ℕ) {n m low : ℕ} → low ≡ least_from b f n → n ≡ m → low ≡ least_from b f m
least_end b f el e = el ∙ ap (least_from b f) e

pub least_le_start : (b : ℕ) (f : ℕ → ℕ) (n : ℕ) → least_from b f n ≤ b
unfolding least_from
least_le_start b f zero = le_refl b
least_le_start b f (suc n) = let h = least_le_start b f n in omega arith

pub least_le : (b : ℕ) (f : ℕ → ℕ) (n j : ℕ) → j < n → least_from b f n ≤ f j
unfolding least_from
least_le b f zero j h = omega arith
least_le b f (suc n) j h = go (λ (l : j < n). least_le b f n j l) (ℕ_discrete j n)
  where
    go : (j < n → least_from b f n ≤ f j) → Dec (j ≡ n) → min (least_from b f n) (f n) ≤ f j
    go ih (yes e) = omega (arith, ap f e)
    go ih (no ne) = let l = ih (omega arith) in omega arith

pub le_least : (b : ℕ) (f : ℕ → ℕ) (n x : ℕ) → x ≤ b → ((j : ℕ) → j < n → x ≤ f j) → x ≤ least_from b f n
unfolding least_from
le_least b f zero x h g = h
le_least b f (suc n) x h g = let ih = le_least b f n x h (λ j l. g j (omega arith)) in let k = g n (omega arith) in omega arith

-- below its start, the least is one of the row
pub least_found : (b : ℕ) (f : ℕ → ℕ) (n : ℕ) → least_from b f n < b → (j : ℕ) × (j < n) × (least_from b f n ≡ f j)
unfolding least_from
least_found b f zero h = absurd (omega arith)
least_found b f (suc n) h = go (λ (l : least_from b f n < b). least_found b f n l) (dec_le (f n) (least_from b f n))
  where
    go : (least_from b f n < b → (j : ℕ) × (j < n) × (least_from b f n ≡ f j)) → Dec (f n ≤ least_from b f n)
        → (j : ℕ) × (j < suc n) × (min (least_from b f n) (f n) ≡ f j)
    go ih (yes l) = (n, omega arith, omega arith)
    go ih (no l) = let w = ih (omega arith) in (w.0, omega arith, omega (arith, w.2))
