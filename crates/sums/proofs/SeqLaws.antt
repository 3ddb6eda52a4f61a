-- Laws of lists by index.
-- Assumes nothing.
use Prim.Native.Nat.{◌+◌, ◌<◌, ◌≤◌, suc, zero, ℕ}
use lib.ListN.{get_or-append, get_or-eq_default, drop, get_or, length, length-append, length-map, length-set, set, take}
use lib.Seq.{get_or_at, get_or-set_other, get_or-set_same, take_all, take-suc}
use mathlib.Core.List.{List, [], ◌++◌, ◌∷◌, map}
use mathlib.Core.Logic.{◌⊎◌, inl, inr}
use mathlib.Core.Path.{◌∙◌, ◌≡◌, ap, ap₂, refl, sym}
use native.Mathlib.Decide.{dec_lt, ℕ_discrete}
use native.Mathlib.Omega.{arith}
use Rattle.sums.specs.Fold.{fold_to}
use Rattle.sums.specs.Seq.{All, fill, tabulate, written}

pub tabulate_ext : {A : Type 0} (n : ℕ) (f g : ℕ → A) → ((i : ℕ) → i < n → f i ≡ g i) → tabulate n f ≡ tabulate n g
unfolding tabulate
tabulate_ext zero f g h = refl
tabulate_ext (suc n) f g h = ap₂ ◌++◌ (tabulate_ext n f g (λ i l. h i (omega arith))) (ap (λ x. x ∷ []) (h n (omega arith)))

pub length-tabulate : {A : Type 0} (n : ℕ) (f : ℕ → A) → length (tabulate n f) ≡ n
unfolding tabulate
length-tabulate zero f = refl
length-tabulate (suc n) f = simp (length-append, length-tabulate n f) (omega arith)

pub get_d_tabulate : {A : Type 0} (n : ℕ) (f : ℕ → A) (k : ℕ) (d : A) → k < n → get_or (tabulate n f) k d ≡ f k
unfolding tabulate
get_d_tabulate zero f k d l = absurd (omega arith)
get_d_tabulate (suc n) f k d l = go (λ h. get_d_tabulate n f k d h) (dec_lt k n)
  where
    go : (k < n → get_or (tabulate n f) k d ≡ f k) → Dec (k < n) → get_or (tabulate n f ++ (f n ∷ [])) k d ≡ f k
    go ih (yes h) = get_or-append (tabulate n f) _ d k (rw (length-tabulate n f) h) ∙ ih h
    go ih (no h) = let s : k ≡ n = omega arith in rw s (get_or_at (tabulate n f) (f n) [] d n (length-tabulate n f))

-- what a sum or a test makes of each element of a table, it makes of the function that made the table; `same` says that it looks at no others
pub tabulate_each : {A B C : Type 0} (none : A) (n : ℕ) (f : ℕ → A) (sum : ℕ → (ℕ → B) → C) (same : (n : ℕ) (g h : ℕ → B) → ((i : ℕ) → i < n → g i ≡ h i) → sum n g ≡ sum n h) (p : A → B)
    → sum (length (tabulate n f)) (λ k. p (get_or (tabulate n f) k none)) ≡ sum n (λ k. p (f k))
tabulate_each none n f sum same p = rw length-tabulate (same n _ _ (λ k l. ap p (get_d_tabulate n f k none l)))

pub all_append : {A : Type 0} (P : A → Type 0) (l l' : List A) → All P l → All P l' → All P (l ++ l')
all_append P [] l' h k = k
all_append P (x ∷ l) l' h k = (h.0, all_append P l l' h.1 k)

-- ---- a buffer written over at its front

pub fill_more : (l d : List ℕ) (v : ℕ) → set (fill l d) (length l) v ≡ fill (l ++ (v ∷ [])) d
unfolding fill
fill_more [] [] v = refl
fill_more [] (y ∷ d) v = refl
fill_more (x ∷ l) [] v = refl
fill_more (x ∷ l) (y ∷ d) v = ap (λ (s : List ℕ). x ∷ s) (fill_more l d v)

pub length-fill : (l d : List ℕ) → length (fill l d) ≡ length d
unfolding fill
length-fill [] d = refl
length-fill (x ∷ l) [] = refl
length-fill (x ∷ l) (y ∷ d) = ap suc (length-fill l d)

-- where the list fits: the list, and then what the buffer had
pub fill-room : (l d : List ℕ) → length l ≤ length d → fill l d ≡ l ++ drop (length l) d
unfolding fill
fill-room [] d h = refl
fill-room (x ∷ l) [] h = absurd (omega arith)
fill-room (x ∷ l) (y ∷ d) h = ap (λ (s : List ℕ). x ∷ s) (fill-room l d (omega arith))

-- an empty buffer stays empty
pub fill-nothing : (l : List ℕ) → fill l [] ≡ []
unfolding fill
fill-nothing [] = refl
fill-nothing (x ∷ l) = refl

pub map-append : {A B : Type 0} (f : A → B) (l l' : List A) → map f (l ++ l') ≡ map f l ++ map f l'
map-append f [] l' = refl
map-append f (x ∷ l) l' = ap (λ s. f x ∷ s) (map-append f l l')

pub all_map : {A B : Type 0} (P : B → Type 0) (f : A → B) (l : List A) → All (λ x. P (f x)) l → All P (map f l)
all_map P f [] h = tt
all_map P f (x ∷ l) h = (h.0, all_map P f l h.1)

-- ---- a stretch of a list written over

pub length-written : (l : List ℕ) (p n : ℕ) (f : ℕ → ℕ) → length (written l p n f) ≡ length l
unfolding written fold_to
length-written l p zero f = refl
length-written l p (suc n) f = length-set (written l p n f) (p + n) (f n) ∙ length-written l p n f

pub written_at : (l : List ℕ) (p n : ℕ) (f : ℕ → ℕ) (k d : ℕ) → k < n → p + k < length l → get_or (written l p n f) (p + k) d ≡ f k
unfolding written fold_to
written_at l p zero f k d u h = absurd (omega arith)
written_at l p (suc n) f k d u h = elim (ℕ_discrete k n) [
  | yes q ↦ rw q (get_or-set_same (written l p n f) (p + n) (f n) d (omega (arith, length-written l p n f)))
  | no q ↦ get_or-set_other (written l p n f) (p + n) (p + k) (f n) d (λ z. q (omega arith)) ∙ written_at l p n f k d (omega arith) h
]

-- outside the stretch
pub written_out : (l : List ℕ) (p n : ℕ) (f : ℕ → ℕ) (x d : ℕ) → (x < p) ⊎ (p + n ≤ x) → get_or (written l p n f) x d ≡ get_or l x d
unfolding written fold_to
written_out l p zero f x d h = refl
written_out l p (suc n) f x d h =
    get_or-set_other (written l p n f) (p + n) x (f n) d (λ z. apart z h) ∙ written_out l p n f x d (less h)
  where
    apart : x ≡ p + n → (x < p) ⊎ (p + suc n ≤ x) → ⊥
    apart z (inl u) = omega arith
    apart z (inr u) = omega arith

    less : (x < p) ⊎ (p + suc n ≤ x) → (x < p) ⊎ (p + n ≤ x)
    less (inl u) = inl u
    less (inr u) = inr (omega arith)

-- inside a list the default does not count: a slice read gives `get_or l k 0`
pub get_d_default : (l : List ℕ) (k a b : ℕ) → k < length l → get_or l k a ≡ get_or l k b
get_d_default [] k a b h = absurd (omega arith)
get_d_default (x ∷ l) zero a b h = refl
get_d_default (x ∷ l) (suc k) a b h = get_d_default l k a b (omega arith)

pub tabulate-past : {A : Type 0} (n : ℕ) (f : ℕ → A) (i : ℕ) (d : A) → n ≤ i → get_or (tabulate n f) i d ≡ d
tabulate-past n f i d h = get_or-eq_default (tabulate n f) d (omega (arith, length-tabulate n f))

-- a table of a list's own elements is the list
tabulate-take : {A : Type 0} (l : List A) (n : ℕ) (f : ℕ → A) (d : A) → n ≤ length l → ((i : ℕ) → i < n → f i ≡ get_or l i d) → tabulate n f ≡ take n l
unfolding tabulate
tabulate-take l zero f d h e = refl
tabulate-take l (suc n) f d h e = rw (tabulate-take l n f d (omega arith) (λ i lt. e i (omega arith)), e n (omega arith), take-suc l n d h) refl

pub tabulate_is : {A : Type 0} (l : List A) (n : ℕ) (f : ℕ → A) (d : A) → length l ≡ n → ((i : ℕ) → i < n → f i ≡ get_or l i d) → tabulate n f ≡ l
tabulate_is l n f d e h = tabulate-take l n f d (omega arith) h ∙ take_all n l (omega arith)

-- a loop that stores f j at j: one more place
pub each_more : (f : ℕ → ℕ) (l : List ℕ) (j v : ℕ) → j < length l → v ≡ f j → ((i : ℕ) → i < j → get_or l i 0 ≡ f i)
    → (i : ℕ) → i < j + 1 → get_or (set l j v) i 0 ≡ f i
each_more f l j v h e g i a = go (ℕ_discrete i j)
  where
    go : Dec (i ≡ j) → get_or (set l j v) i 0 ≡ f i
    go (yes q) = ap (λ (x : ℕ). get_or (set l j v) x 0) q ∙ get_or-set_same l j v 0 h ∙ e ∙ ap f (sym q)
    go (no q) = get_or-set_other l j i v 0 q ∙ g i (omega arith)

-- a stretch from the front on is a list written over the front
pub written-front : (l : List ℕ) (n : ℕ) (f : ℕ → ℕ) → written l 0 n f ≡ fill (tabulate n f) l
unfolding written fold_to fill tabulate
written-front l zero f = refl
written-front l (suc n) f =
    let e : 0 + n ≡ length (tabulate n f) = omega (arith, length-tabulate n f) in
    ap₂ (λ (d : List ℕ) (k : ℕ). set d k (f n)) (written-front l n f) e ∙ fill_more (tabulate n f) l (f n)

-- the length of an array field, as the checker knows it of a struct
pub array_length : (n : ℕ) (l : List ℕ) → length (map (λ (v : ℕ). v) l) ≡ n → length l ≡ n
array_length n l e = sym (length-map l (λ (v : ℕ). v)) ∙ e
