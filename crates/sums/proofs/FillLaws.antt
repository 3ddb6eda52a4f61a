-- Lists that a loop fills from the front.
-- Assumes nothing.
use Prim.Native.Nat.{◌<◌, ◌≤◌, suc, zero, ℕ}
use lib.ListN.{drop, get_or, length, length-take, take}
use lib.Seq.{get_or-take, take_at}
use mathlib.Core.List.{List, [], ◌++◌, ◌∷◌, map}
use mathlib.Core.Path.{◌∙◌, ◌≡◌, ap, refl, sym}
use native.Mathlib.Decide.{dec_lt}
use native.Mathlib.Omega.{arith}
use Rattle.sums.proofs.SeqLaws.{fill-room, get_d_tabulate, length-tabulate, map-append, tabulate_ext, tabulate_is, tabulate-past, written-front}
use Rattle.sums.specs.Seq.{fill, tabulate, written}

-- what the loop stored, by what it stands for
pub filled-front : (l : List ℕ) (n : ℕ) (f g : ℕ → ℕ) (a : List ℕ) → a ≡ written l 0 n f → ((i : ℕ) → i < n → f i ≡ g i) → a ≡ fill (tabulate n g) l
filled-front l n f g a e h = e ∙ written-front l n f ∙ ap (λ (k : List ℕ). fill k l) (tabulate_ext n f g h)

pub map-tabulate : {A B : Type 0} (f : A → B) (n : ℕ) (g : ℕ → A) → tabulate n (λ k. f (g k)) ≡ map f (tabulate n g)
unfolding tabulate
map-tabulate f zero g = refl
map-tabulate f (suc n) g = ap (λ l. l ++ (f (g n) ∷ [])) (map-tabulate f n g) ∙ sym (map-append f (tabulate n g) (g n ∷ []))

-- a list's first elements, changed one by one
pub tabulate-front : {A : Type 0} (f : ℕ → A) (l : List ℕ) (n : ℕ) → n ≤ length l → tabulate n (λ k. f (get_or l k 0)) ≡ map f (take n l)
tabulate-front f l n h =
    map-tabulate f n (λ k. get_or l k 0)
    ∙ ap (map f) (tabulate_is (take n l) n (λ k. get_or l k 0) 0 (omega (arith, length-take n l)) (λ i u. sym (get_or-take n l i 0 u)))

-- what every element of a table has, and the default, every place has
pub each_tabulated : {A : Type 0} (P : A → Type 0) (n : ℕ) (f : ℕ → A) (d : A) → ((k : ℕ) → k < n → P (f k)) → P d → (k : ℕ) → P (get_or (tabulate n f) k d)
each_tabulated P n f d h z k = elim (dec_lt k n) [ yes u ↦ rw (get_d_tabulate n f k d u) (h k u) | no u ↦ rw (tabulate-past n f k d (omega arith)) z ]

-- ---- the front of what was written over, and what is behind it

pub take-fill : (l d : List ℕ) (n : ℕ) → length l ≡ n → n ≤ length d → take n (fill l d) ≡ l
take-fill l d n e h = ap (take n) (fill-room l d (omega arith)) ∙ take_at l (drop (length l) d) n e

pub drop-fill : (l d : List ℕ) (k : ℕ) → length l ≤ k → drop k (fill l d) ≡ drop k d
unfolding fill
drop-fill [] d k h = refl
drop-fill (x ∷ l) [] k h = refl
drop-fill (x ∷ l) (y ∷ d) zero h = absurd (omega arith)
drop-fill (x ∷ l) (y ∷ d) (suc k) h = drop-fill l d k (omega arith)

pub drop-written : (l : List ℕ) (n : ℕ) (f : ℕ → ℕ) → drop n (written l 0 n f) ≡ drop n l
drop-written l n f = ap (drop n) (written-front l n f) ∙ drop-fill (tabulate n f) l n (omega (arith, length-tabulate n f))
