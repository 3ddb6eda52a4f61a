-- Laws of the bar and of the log, as a loop uses them.
-- Assumes nothing.
use Prim.Native.Nat.{◌%◌, ◌+◌, ◌-◌, ◌/◌, ◌<◌, ◌≤◌, suc, zero, ℕ}
use borrow.Author.Tests.{eq-eqb, le-ltb, lt-ltb, ne_eqb}
use lib.Dec.{eqb, ltb}
use mathlib.Core.Bool.{Bool, false, true}
use mathlib.Core.List.{List, [], ◌++◌, ◌∷◌, append-nil, map}
use mathlib.Core.Path.{◌∙◌, ◌≡◌, ap, ap₂, refl, sym}
use native.Mathlib.Decide.{dec_lt, ℕ_discrete}
use native.Mathlib.Numerals.{add-one}
use native.Mathlib.Omega.{arith}
use Rattle.ordering.specs.Order.{ceiling_of, entry_at, key_of, last_of, log_to, ref_of, seek}
use Rattle.sums.proofs.TestLaws.{pick-false, pick_true}
use Rattle.sums.specs.Seq.{only, only_if}
use Rattle.sums.specs.Test.{pick}

-- ---- the last block, what an instance allows, and its next key
pub last_some : (f : ℕ → ℕ) (n : ℕ) → 0 < n → last_of f n ≡ f (n - 1)
last_some f n h = pick_true (ltb 0 n) (f (n - 1)) 0 (lt-ltb 0 n h)

pub last_none : (f : ℕ → ℕ) (n : ℕ) → n ≤ 0 → last_of f n ≡ 0
last_none f n h = pick-false (ltb 0 n) (f (n - 1)) 0 (le-ltb 0 n h)

-- the last of one more is the new one
pub last_next : (f : ℕ → ℕ) (n : ℕ) → last_of f (n + 1) ≡ f n
last_next f n = last_some f (n + 1) (omega arith) ∙ ap f (let e : n + 1 - 1 ≡ n = omega arith in e)

-- it hangs on the first n alone
pub last_ext : (f g : ℕ → ℕ) (n : ℕ) → ((k : ℕ) → k < n → f k ≡ g k) → last_of f n ≡ last_of g n
last_ext f g n h = elim (dec_lt 0 n) [
  | yes l ↦ last_some f n l ∙ h (n - 1) (omega arith) ∙ sym (last_some g n l)
  | no l ↦ last_none f n (omega arith) ∙ sym (last_none g n (omega arith))
]

pub ceiling_some : (R : ℕ → ℕ → ℕ) (F : ℕ → ℕ) (j : ℕ) → 0 < F j → ceiling_of R F j ≡ key_of (R j (F j - 1) + 1) j
ceiling_some R F j h = ap (λ (r : ℕ). key_of (r + 1) j) (last_some (R j) (F j) h)

pub ceiling_none : (R : ℕ → ℕ → ℕ) (F : ℕ → ℕ) (j : ℕ) → F j ≤ 0 → ceiling_of R F j ≡ key_of 1 j
ceiling_none R F j h = ap (λ (r : ℕ). key_of (r + 1) j) (last_none (R j) (F j) h)

-- the key of the next block of instance j behind a cursor, or the bar b where there is none
abbrev pub next_of : (ℕ → ℕ → ℕ) → (ℕ → ℕ) → ℕ → (ℕ → ℕ) → ℕ → ℕ
next_of R F b C j = pick (ltb (C j) (F j)) (key_of (R j (C j)) j) b

pub next-some : (R : ℕ → ℕ → ℕ) (F : ℕ → ℕ) (b : ℕ) (C : ℕ → ℕ) (j n f r k : ℕ) → n ≡ C j → f ≡ F j → n < f → r ≡ R j n → k ≡ key_of r j → k ≡ next_of R F b C j
next-some R F b C j n f r k en ef h er ek =
    let t : ltb (C j) (F j) ≡ true = lt-ltb (C j) (F j) (omega arith) in
    let q : r ≡ R j (C j) = er ∙ ap (R j) en in
    omega (arith, pick_true (ltb (C j) (F j)) (key_of (R j (C j)) j) b t)

pub next-none : (R : ℕ → ℕ → ℕ) (F : ℕ → ℕ) (b : ℕ) (C : ℕ → ℕ) (j n f : ℕ) → n ≡ C j → f ≡ F j → f ≤ n → b ≡ next_of R F b C j
next-none R F b C j n f en ef h =
    sym (pick-false (ltb (C j) (F j)) (key_of (R j (C j)) j) b (le-ltb (C j) (F j) (omega arith)))

-- ---- the log between two keys
pub log-more : (m : ℕ) (R : ℕ → ℕ → ℕ) (F : ℕ → ℕ) (k : ℕ) → log_to m R F (k + 1) ≡ log_to m R F k ++ entry_at m R F k
unfolding log_to
log-more m R F k = rw add-one

-- no block has a key from lo on, below lo + d
quiet : (m : ℕ) (R : ℕ → ℕ → ℕ) (F : ℕ → ℕ) (lo d : ℕ) → ((x : ℕ) → lo ≤ x → x < lo + d → entry_at m R F x ≡ []) → log_to m R F (lo + d) ≡ log_to m R F lo
quiet m R F lo zero h = ap (log_to m R F) (omega arith)
quiet m R F lo (suc d) h =
    let e : lo + suc d ≡ (lo + d) + 1 = omega arith in
    ap (log_to m R F) e ∙ log-more m R F (lo + d) ∙ ap₂ ◌++◌ (quiet m R F lo d (λ x a b. h x a (omega arith))) (h (lo + d) (omega arith) (omega arith)) ∙ append-nil (log_to m R F lo)

pub log-quiet : (m : ℕ) (R : ℕ → ℕ → ℕ) (F : ℕ → ℕ) (lo hi : ℕ) → lo ≤ hi → ((x : ℕ) → lo ≤ x → x < hi → entry_at m R F x ≡ []) → log_to m R F hi ≡ log_to m R F lo
log-quiet m R F lo hi l h =
    let e : hi ≡ lo + (hi - lo) = omega arith in
    ap (log_to m R F) e ∙ quiet m R F lo (hi - lo) (λ x a b. h x a (omega arith))

-- ---- the places of a value in a row
pub seek-none : (f : ℕ → ℕ) (r n : ℕ) → ((k : ℕ) → k < n → f k ≡ r → ⊥) → seek f r n ≡ []
unfolding seek
seek-none f r zero h = refl
seek-none f r (suc n) h =
    let e : eqb (f n) r ≡ false = ne_eqb (f n) r (h n (omega arith)) in
    let ih : seek f r n ≡ [] = seek-none f r n (λ k l. h k (omega arith)) in
    ap₂ (λ (l : List ℕ) (b : Bool). l ++ only b n) ih e

-- a value that stands at p and nowhere else
pub seek-one : (f : ℕ → ℕ) (r n p : ℕ) → p < n → f p ≡ r → ((k : ℕ) → k < n → f k ≡ r → k ≡ p) → seek f r n ≡ p ∷ []
unfolding seek
seek-one f r zero p l e u = absurd (omega arith)
seek-one f r (suc n) p l e u = go (λ (q : p < n). seek-one f r n p q e (λ k a. u k (omega arith))) (ℕ_discrete p n)
  where
    go : (p < n → seek f r n ≡ p ∷ []) → Dec (p ≡ n) → seek f r n ++ only (eqb (f n) r) n ≡ p ∷ []
    go ih (yes q) =
        let t : eqb (f n) r ≡ true = eq-eqb (f n) r (ap f (sym q) ∙ e) in
        let none : seek f r n ≡ [] = seek-none f r n (λ k a b. let w = u k (omega arith) b in omega arith) in
        ap₂ (λ (l : List ℕ) (b : Bool). l ++ only b n) none t ∙ ap (λ (x : ℕ). x ∷ []) (sym q)
    go ih (no q) =
        let t : eqb (f n) r ≡ false = ne_eqb (f n) r (λ b. let w = u n (omega arith) b in q (sym w)) in
        ap₂ (λ (l : List ℕ) (b : Bool). l ++ only b n) (ih (omega arith)) t

-- no block has the key x
pub entry-none : (m : ℕ) (R : ℕ → ℕ → ℕ) (F : ℕ → ℕ) (x : ℕ) → ((n : ℕ) → x % 16 < m → n < F (x % 16) → key_of (R (x % 16) n) (x % 16) ≡ x → ⊥) → entry_at m R F x ≡ []
unfolding entry_at
entry-none m R F x h = go (dec_lt (x % 16) m)
  where
    go : Dec (x % 16 < m) → only_if (ltb (x % 16) m) (map (ref_of (x % 16)) (seek (R (x % 16)) (x / 16) (F (x % 16)))) ≡ []
    go (yes l) =
        let e : seek (R (x % 16)) (x / 16) (F (x % 16)) ≡ [] = seek-none (R (x % 16)) (x / 16) (F (x % 16)) (λ n a b. h n l a (omega arith)) in
        ap₂ (λ (t : Bool) (s : List ℕ). only_if t (map (ref_of (x % 16)) s)) (lt-ltb (x % 16) m l) e
    go (no l) = ap (λ (t : Bool). only_if t (map (ref_of (x % 16)) (seek (R (x % 16)) (x / 16) (F (x % 16))))) (le-ltb (x % 16) m (omega arith))
