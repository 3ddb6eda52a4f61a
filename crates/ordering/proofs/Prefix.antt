-- The log of a view is a beginning of the log of a larger one, and holds blocks of the view below the bar.
-- Assumes nothing.
use Prim.Native.Nat.{◌%◌, ◌*◌, ◌+◌, ◌-◌, ◌/◌, ◌<◌, ◌≤◌, suc, zero, ℕ}
use borrow.Author.Tests.{eqb-true, le-ltb, ltb-true, ne_eqb}
use lib.Dec.{eqb, ltb}
use mathlib.Core.Bool.{Bool, false, true}
use mathlib.Core.List.{List, [], ◌++◌, ◌∷◌, append_assoc, append-nil, map}
use mathlib.Core.Path.{◌∙◌, ◌≡◌, ap, ap₂, refl, sym}
use native.Mathlib.Decide.{dec_lt, ℕ_discrete}
use native.Mathlib.Nat.{le_refl}
use native.Mathlib.Numerals.{add-one}
use native.Mathlib.Omega.{arith}
use Rattle.ordering.proofs.Laws.{last_next, last_some, log-more}
use Rattle.ordering.specs.Order.{Ref, bar_of, ceiling_of, entry_at, global_log, key_of, last_of, log_to, ref_of, seek}
use Rattle.ordering.specs.Table.{Climbs, Ordered, block_id, ref_in}
use Rattle.sums.proofs.SeqLaws.{all_append, all_map}
use Rattle.sums.specs.Seq.{All, Begins, only, only_if}
use Rattle.sums.proofs.LeastLaws.{le_least, least_found, least_le, least_le_start}

-- later blocks have higher ranks
abbrev pub Ascends : (ℕ → ℕ) → ℕ → Type 0
Ascends rank b = (n n' : ℕ) → n < n' → n' < b → rank n < rank n'

pub ascends_le : (f : ℕ → ℕ) (b : ℕ) → Ascends f b → (p q : ℕ) → p ≤ q → q < b → f p ≤ f q
ascends_le f b up p q h l = elim (dec_lt p q) [ yes s ↦ omega (arith, up p q s l) | no s ↦ omega (arith, ap f (let e : p ≡ q = omega arith in e)) ]

-- the same rank is the same place
pub ascends_place : (f : ℕ → ℕ) (b : ℕ) → Ascends f b → (p q : ℕ) → p < b → q < b → f p ≡ f q → p ≡ q
ascends_place f b up p q h l e = elim (dec_lt p q) [ yes s ↦ absurd (omega (arith, up p q s l)) | no s ↦ elim (dec_lt q p) [ yes v ↦ absurd (omega (arith, up q p v h)) | no v ↦ omega arith ] ]

-- ranks that are each above the last before rise
pub climbs_ascends : (f : ℕ → ℕ) (b : ℕ) → Climbs f b → Ascends f b
climbs_ascends f b up p zero h l = absurd (omega arith)
climbs_ascends f b up p (suc q) h l =
    let next : f q < f (suc q) = omega (arith, up (suc q) l, last_next f q, ap (last_of f) (add-one q)) in
    elim (ℕ_discrete p q) [ yes e ↦ omega (arith, ap f e) | no e ↦ omega (arith, climbs_ascends f b up p q (omega arith) (omega arith)) ]

-- what follows has a higher rank than the last of the first n, also where there was none
pub climbs_last : (f : ℕ → ℕ) (b : ℕ) → Climbs f b → (n k : ℕ) → n ≤ k → k < b → last_of f n < f k
climbs_last f b up n k h l = omega (arith, up n (omega arith), ascends_le f b (climbs_ascends f b up) n k h l)

last_grows : (f : ℕ → ℕ) (b : ℕ) → Climbs f b → (n k : ℕ) → n ≤ k → k ≤ b → last_of f n ≤ last_of f k
last_grows f b up n k h l = elim (dec_lt n k) [
  | yes s ↦ omega (arith, climbs_last f b up n (k - 1) (omega arith) (omega arith), last_some f k (omega arith))
  | no s ↦ omega (arith, ap (last_of f) (let e : n ≡ k = omega arith in e))
]

-- ---- the bar, as the document states it

module _ (m : ℕ) (R : ℕ → ℕ → ℕ) (F : ℕ → ℕ) where
  -- the bar is at most (last rank + 1, instance) of each instance
  pub bar-le : (j : ℕ) → j < m → bar_of m R F ≤ key_of (last_of (R j) (F j) + 1) j
  bar-le = least_le (ceiling_of R F 0) (ceiling_of R F) m

  -- and it is that of some instance
  pub bar_is : 0 < m → (j : ℕ) × (j < m) × (bar_of m R F ≡ key_of (last_of (R j) (F j) + 1) j)
  bar_is h = elim (dec_lt (bar_of m R F) (ceiling_of R F 0)) [
    | yes l ↦ least_found (ceiling_of R F 0) (ceiling_of R F) m l
    | no l ↦ (0, h, omega (arith, least_le_start (ceiling_of R F 0) (ceiling_of R F) m))
  ]

-- ---- the beginning

seek_same : (f : ℕ → ℕ) (r n d : ℕ) → ((k : ℕ) → n ≤ k → k < n + d → f k ≡ r → ⊥) → seek f r (n + d) ≡ seek f r n
unfolding seek
seek_same f r n zero h = let e : n + zero ≡ n = omega arith in ap (seek f r) e
seek_same f r n (suc d) h =
    let e : n + suc d ≡ suc (n + d) = omega arith in
    let t : eqb (f (n + d)) r ≡ false = ne_eqb (f (n + d)) r (h (n + d) (omega arith) (omega arith)) in
    let ih = seek_same f r n d (λ k a b. h k a (omega arith)) in
    ap (seek f r) e ∙ ap₂ (λ (l : List ℕ) (b : Bool). l ++ only b (n + d)) ih t ∙ append-nil (seek f r n)

log_from : (m : ℕ) (R : ℕ → ℕ → ℕ) (F : ℕ → ℕ) (lo hi : ℕ) → lo ≤ hi → Begins (log_to m R F lo) (log_to m R F hi)
log_from m R F lo hi h =
    let e : lo + (hi - lo) ≡ hi = omega arith in
    let w = go (hi - lo) in
    (w.0, w.1 ∙ ap (log_to m R F) e)
  where
    go : (d : ℕ) → Begins (log_to m R F lo) (log_to m R F (lo + d))
    go zero = let e : lo + zero ≡ lo = omega arith in ([], append-nil (log_to m R F lo) ∙ ap (log_to m R F) (sym e))
    go (suc d) =
        let w = go d in
        let e : lo + d + 1 ≡ lo + suc d = omega arith in (
          w.0 ++ entry_at m R F (lo + d),
          sym (append_assoc (log_to m R F lo) w.0 (entry_at m R F (lo + d))) ∙ ap (λ (l : List Ref). l ++ entry_at m R F (lo + d)) w.1
              ∙ sym (log-more m R F (lo + d)) ∙ ap (log_to m R F) e,
        )

module _ (m : ℕ) (R : ℕ → ℕ → ℕ) (F G : ℕ → ℕ) (some : 0 < m) (grows : (j : ℕ) → j < m → F j ≤ G j) (climbs : (j : ℕ) → j < m → Climbs (R j) (G j)) where
  -- below the bar of the smaller view both have the same blocks
  entry_same : (x : ℕ) → x < bar_of m R F → entry_at m R G x ≡ entry_at m R F x
  unfolding entry_at
  entry_same x h = go (dec_lt (x % 16) m)
    where
      absent : (l : x % 16 < m) (k : ℕ) → F (x % 16) ≤ k → k < G (x % 16) → R (x % 16) k ≡ x / 16 → ⊥
      absent l k a b e = omega (arith, bar-le m R F (x % 16) l, climbs_last (R (x % 16)) (G (x % 16)) (climbs (x % 16) l) (F (x % 16)) k a b)

      go : Dec (x % 16 < m)
          → only_if (ltb (x % 16) m) (map (ref_of (x % 16)) (seek (R (x % 16)) (x / 16) (G (x % 16))))
          ≡ only_if (ltb (x % 16) m) (map (ref_of (x % 16)) (seek (R (x % 16)) (x / 16) (F (x % 16))))
      go (yes l) =
          let g = grows (x % 16) l in
          let e : G (x % 16) ≡ F (x % 16) + (G (x % 16) - F (x % 16)) = omega arith in
          let s = seek_same (R (x % 16)) (x / 16) (F (x % 16)) (G (x % 16) - F (x % 16)) (λ k a b q. absent l k a (omega arith) q) in
          ap (λ (z : List ℕ). only_if (ltb (x % 16) m) (map (ref_of (x % 16)) z)) (ap (seek (R (x % 16)) (x / 16)) e ∙ s)
      go (no l) = let t = le-ltb (x % 16) m (omega arith) in simp t

  log_same : (k : ℕ) → k ≤ bar_of m R F → log_to m R G k ≡ log_to m R F k
  unfolding log_to
  log_same zero h = refl
  log_same (suc k) h = ap₂ ◌++◌ (log_same k (omega arith)) (entry_same k (omega arith))

  -- the bar only rises
  pub bar_grows : bar_of m R F ≤ bar_of m R G
  bar_grows = le_least (ceiling_of R G 0) (ceiling_of R G) m (bar_of m R F) (each 0 some) each
    where
      each : (j : ℕ) → j < m → bar_of m R F ≤ ceiling_of R G j
      each j l = omega (arith, bar-le m R F j l, last_grows (R j) (G j) (climbs j l) (F j) (G j) (grows j l) (le_refl (G j)))

  -- what the larger view adds comes after
  pub log-begins : Begins (global_log m R F) (global_log m R G)
  unfolding global_log
  log-begins =
      let w = log_from m R G (bar_of m R F) (bar_of m R G) bar_grows in
      (w.0, ap (λ (l : List Ref). l ++ w.0) (sym (log_same (bar_of m R F) (le_refl (bar_of m R F)))) ∙ w.1)

-- ---- what holds of every block of the view below the bar holds throughout the log

all-only_if : {A : Type 0} (P : A → Type 0) (t : Bool) (l : List A) → (t ≡ true → All P l) → All P (only_if t l)
all-only_if P true l f = f refl
all-only_if P false l f = tt

all-only : {A : Type 0} (P : A → Type 0) (t : Bool) (x : A) → (t ≡ true → P x) → All P (only t x)
all-only P true x f = (f refl, tt)
all-only P false x f = tt

pub all-seek : (P : ℕ → Type 0) (f : ℕ → ℕ) (r n : ℕ) → ((k : ℕ) → k < n → f k ≡ r → P k) → All P (seek f r n)
unfolding seek
all-seek P f r zero g = tt
all-seek P f r (suc n) g =
    all_append P (seek f r n) (only (eqb (f n) r) n) (all-seek P f r n (λ k a. g k (omega arith))) (all-only P (eqb (f n) r) n (λ t. g n (omega arith) (eqb-true (f n) r t)))

module _ (m : ℕ) (R : ℕ → ℕ → ℕ) (F : ℕ → ℕ) (P : Ref → Type 0) where
  pub all-entry : (x : ℕ) → ((i n : ℕ) → i < m → n < F i → key_of (R i n) i ≡ x → P (ref_of i n)) → All P (entry_at m R F x)
  unfolding entry_at
  all-entry x g =
      all-only_if P (ltb (x % 16) m) (map (ref_of (x % 16)) (seek (R (x % 16)) (x / 16) (F (x % 16))))
      (λ t. all_map P (ref_of (x % 16)) (seek (R (x % 16)) (x / 16) (F (x % 16)))
      (all-seek (λ k. P (ref_of (x % 16) k)) (R (x % 16)) (x / 16) (F (x % 16)) (λ k a e. g (x % 16) k (ltb-true (x % 16) m t) a (omega arith))))

  pub all-to : (k : ℕ) → ((i n : ℕ) → i < m → n < F i → key_of (R i n) i < k → P (ref_of i n)) → All P (log_to m R F k)
  unfolding log_to
  all-to zero g = tt
  all-to (suc k) g = all_append P (log_to m R F k) (entry_at m R F k) (all-to k (λ i n a b c. g i n a b (omega arith))) (all-entry k (λ i n a b e. g i n a b (omega arith)))

  pub all-log : ((i n : ℕ) → i < m → n < F i → key_of (R i n) i < bar_of m R F → P (ref_of i n)) → All P (global_log m R F)
  unfolding global_log
  all-log g = all-to (bar_of m R F) g

-- a block of the view
abbrev pub Within : ℕ → (ℕ → ℕ) → Ref → Type 0
Within m F b = (b.instance < m) × (b.index < F b.instance)

pub log_within : (m : ℕ) (R : ℕ → ℕ → ℕ) (F : ℕ → ℕ) → All (Within m F) (global_log m R F)
log_within m R F = all-log m R F (Within m F) (λ i n l u h. (l, u))

-- ---- the log as numbers, and back

ref_id : (b : Ref) → b.index < 128 → ref_in (block_id b) ≡ b
ref_id b h = ap₂ ref_of (let q : (b.instance * 128 + b.index) / 128 ≡ b.instance = omega arith in q) (let q : (b.instance * 128 + b.index) % 128 ≡ b.index = omega arith in q)

refs_ids : (l : List Ref) → All (λ b. b.index < 128) l → map ref_in (map block_id l) ≡ l
refs_ids [] h = refl
refs_ids (b ∷ l) h = ap₂ (λ (x : Ref) (s : List Ref). x ∷ s) (ref_id b h.0) (refs_ids l h.1)

pub log_ids : (m : ℕ) (R : ℕ → ℕ → ℕ) (F : ℕ → ℕ) → Ordered m R F → map ref_in (map block_id (global_log m R F)) ≡ global_log m R F
log_ids m R F o = refs_ids (global_log m R F) (all-log m R F (λ b. b.index < 128) (λ i n l u h. let s : F i ≤ 128 = o.short i l in omega arith))
