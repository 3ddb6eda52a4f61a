-- An array filled place by place: as a loop leaves it after j turns, and at its end.
-- Assumes nothing.
use Prim.Native.Nat.{◌+◌, ◌<◌, ◌≤◌, ℕ}
use lib.ListN.{get_or-eq_default, get_or, length, length-set, set}
use mathlib.Core.List.{List}
use mathlib.Core.Path.{◌∙◌, ◌≡◌, fun_ext, sym}
use native.Mathlib.Decide.{dec_lt}
use native.Mathlib.Omega.{arith}
use Rattle.sums.proofs.SeqLaws.{each_more}

-- the first j of n places hold f
pub record Filled (n : ℕ) (f : ℕ → ℕ) (l : List ℕ) (j : ℕ) : Type 0 where
  pub size : length l ≡ n
  pub done : (i : ℕ) → i < j → get_or l i 0 ≡ f i

pub filled_none : (n : ℕ) (f : ℕ → ℕ) (l : List ℕ) → length l ≡ n → Filled n f l 0
filled_none n f l e = record { size = e; done = λ i h. absurd (omega arith) }

pub filled_more : (n : ℕ) (f : ℕ → ℕ) (l : List ℕ) (j v : ℕ) → j < n → v ≡ f j → Filled n f l j → Filled n f (set l j v) (j + 1)
filled_more n f l j v h e k = record { size = length-set l j v ∙ k.size; done = each_more f l j v (omega (arith, k.size)) e k.done }

-- past its end the array counts as 0
pub filled_end : (n : ℕ) (f : ℕ → ℕ) (l : List ℕ) (j : ℕ) → n ≤ j → ((i : ℕ) → n ≤ i → f i ≡ 0) → Filled n f l j → (λ i. get_or l i 0) ≡ f
filled_end n f l j h z k = fun_ext (λ i. go i (dec_lt i n))
  where
    go : (i : ℕ) → Dec (i < n) → get_or l i 0 ≡ f i
    go i (yes u) = k.done i (omega arith)
    go i (no u) = get_or-eq_default l 0 {n = i} (omega (arith, k.size)) ∙ sym (z i (omega arith))
