-- One turn of the merge: the least next key is the next key of the log.
-- Assumes nothing.
use Prim.Native.Nat.{◌%◌, ◌*◌, ◌+◌, ◌-◌, ◌/◌, ◌<◌, ◌≤◌, suc, zero, ℕ}
use borrow.Author.Tests.{lt-ltb}
use lib.ListN.{get_or-eq_default, length, length-append, length-map, length-set, replicate, set}
use lib.Seq.{get_or-set_other, get_or-set_same}
use mathlib.Core.Bool.{Bool}
use mathlib.Core.List.{List, [], ◌++◌, ◌∷◌, map}
use mathlib.Core.Path.{◌∙◌, ◌≡◌, ap, ap₂, refl, subst, sym}
use native.Mathlib.Decide.{dec_lt, ℕ_discrete}
use native.Mathlib.Nat.{add-zero}
use native.Mathlib.Omega.{arith}
use Rattle.ordering.proofs.Laws.{entry-none, log-more, log-quiet, next-none, next-some, next_of, seek-one}
use Rattle.ordering.proofs.Prefix.{Ascends, ascends_le, ascends_place}
use Rattle.ordering.specs.Order.{Ref, bar_of, entry_at, global_log, key_of, log_to, ref_of, seek}
use Rattle.ordering.specs.Table.{Ordered, block_id, count_in}
use Rattle.sums.proofs.SeqLaws.{fill_more, map-append}
use Rattle.sums.specs.Seq.{fill, only_if}
use Rattle.sums.proofs.LeastLaws.{le_least, least_found, least_le, least_le_start}
use Rattle.sums.specs.Least.{least_from}

-- the blocks passed by the cursors C have keys below k
abbrev pub Below : ℕ → (ℕ → ℕ → ℕ) → (ℕ → ℕ) → ℕ → Type 0
Below m R C k = (j n : ℕ) → j < m → n < C j → key_of (R j n) j < k

module _ (m : ℕ) (R : ℕ → ℕ → ℕ) (F : ℕ → ℕ) (ord : Ordered m R F) (small : (i : ℕ) → 0 < F i → i < 16) where
  -- ranks rise over any distance
  rises : (j p d : ℕ) → j < m → p + 1 + d < F j → R j p < R j (p + 1 + d)
  rises j p zero l h = let w = ord.rising j p l (omega arith) in omega (arith, ap (R j) (add-zero (p + 1)))
  rises j p (suc d) l h =
      let w = rises j p d l (omega arith) in
      let v = ord.rising j (p + 1 + d) l (omega arith) in
      let e : p + 1 + suc d ≡ p + 1 + d + 1 = omega arith in
      omega (arith, ap (R j) e)

  rising : (j : ℕ) → j < m → Ascends (R j) (F j)
  rising j l p q h g =
      let e : q ≡ p + 1 + (q - (p + 1)) = omega arith in
      let w = rises j p (q - (p + 1)) l (omega arith) in
      omega (arith, ap (R j) e)

  -- the key of a block of the view has that block alone
  entry-one : (x n : ℕ) → x % 16 < m → n < F (x % 16) → x ≡ key_of (R (x % 16) n) (x % 16) → entry_at m R F x ≡ ref_of (x % 16) n ∷ []
  unfolding entry_at
  entry-one x n l h e =
      let r : R (x % 16) n ≡ x / 16 = omega arith in
      let s : seek (R (x % 16)) (x / 16) (F (x % 16)) ≡ n ∷ [] = seek-one (R (x % 16)) (x / 16) (F (x % 16)) n h r (λ k a b. ascends_place (R (x % 16)) (F (x % 16)) (rising (x % 16) l) k n a h (b ∙ sym r)) in
      ap₂ (λ (t : Bool) (s : List ℕ). only_if t (map (ref_of (x % 16)) s)) (lt-ltb (x % 16) m l) s

  module _ (b : ℕ) where
    abbrev next : (ℕ → ℕ) → ℕ → ℕ
    next C = next_of R F b C

    abbrev low : (ℕ → ℕ) → ℕ
    low C = least_from b (next_of R F b C) m

    next_is : (C : ℕ → ℕ) (j : ℕ) → C j < F j → key_of (R j (C j)) j ≡ next_of R F b C j
    next_is C j h = next-some R F b C j (C j) (F j) (R j (C j)) (key_of (R j (C j)) j) refl refl h refl refl

    next-out : (C : ℕ → ℕ) (j : ℕ) → F j ≤ C j → b ≡ next_of R F b C j
    next-out C j h = next-none R F b C j (C j) (F j) refl refl h

    -- between what the cursors passed and the least next key there is no block
    pub gap : (C : ℕ → ℕ) (lo : ℕ) → Below m R C lo → (x : ℕ) → lo ≤ x → x < least_from b (next_of R F b C) m → entry_at m R F x ≡ []
    gap C lo below x hl hx = entry-none m R F x (λ n l h e. go n l h e (dec_lt n (C (x % 16))))
      where
        go : (n : ℕ) → x % 16 < m → n < F (x % 16) → key_of (R (x % 16) n) (x % 16) ≡ x → Dec (n < C (x % 16)) → ⊥
        go n l h e (yes a) = let w = below (x % 16) n l a in omega arith
        go n l h e (no a) =
            let w = ascends_le (R (x % 16)) (F (x % 16)) (rising (x % 16) l) (C (x % 16)) n (omega arith) h in
            let v = next_is C (x % 16) (omega arith) in
            let u = least_le b (next_of R F b C) m (x % 16) l in
            omega arith

    -- the least next key below b is the next key of its own instance
    pub at_least : (C : ℕ → ℕ) (k : ℕ) → k ≡ least_from b (next_of R F b C) m → k < b
        → (k % 16 < m) × (C (k % 16) < F (k % 16)) × (k ≡ key_of (R (k % 16) (C (k % 16))) (k % 16))
    at_least C k ek hk =
        let w = least_found b (next_of R F b C) m (omega arith) in
        go w.0 w.1 (ek ∙ w.2) (dec_lt (C w.0) (F w.0))
      where
        back : (j : ℕ) → j ≡ k % 16 → j < m → C j < F j → k ≡ key_of (R j (C j)) j
            → (k % 16 < m) × (C (k % 16) < F (k % 16)) × (k ≡ key_of (R (k % 16) (C (k % 16))) (k % 16))
        back j e l h q = subst (λ (i : ℕ). (i < m) × (C i < F i) × (k ≡ key_of (R i (C i)) i)) e (l, h, q)

        go : (j : ℕ) → j < m → k ≡ next_of R F b C j → Dec (C j < F j)
            → (k % 16 < m) × (C (k % 16) < F (k % 16)) × (k ≡ key_of (R (k % 16) (C (k % 16))) (k % 16))
        go j l e (yes h) =
            let v = next_is C j h in
            let s = small j (omega arith) in
            back j (omega arith) l h (omega arith)
        go j l e (no h) = absurd (let v = next-out C j (omega arith) in omega arith)

    module _ (C D : ℕ → ℕ) (k : ℕ) (ek : k ≡ least_from b (next_of R F b C) m) (hk : k < b) (below : Below m R C k)
        (same : D (k % 16) ≡ C (k % 16) + 1) (other : (j : ℕ) → (j ≡ k % 16 → ⊥) → D j ≡ C j) where
      pub passed : Below m R D (k + 1)
      passed j n l h = go (ℕ_discrete j (k % 16))
        where
          q : k ≡ key_of (R (k % 16) (C (k % 16))) (k % 16)
          q = (at_least C k ek hk).2

          here : n < C (k % 16) + 1 → k % 16 < m → Dec (n ≡ C (k % 16)) → key_of (R (k % 16) n) (k % 16) < k + 1
          here a i (yes e) = omega (arith, q, ap (R (k % 16)) e)
          here a i (no e) = let w = below (k % 16) n i (omega arith) in omega arith

          go : Dec (j ≡ k % 16) → key_of (R j n) j < k + 1
          go (yes e) =
              let w = here (omega (arith, same, ap D e)) (omega arith) (ℕ_discrete n (C (k % 16))) in
              omega (arith, ap (λ (i : ℕ). R i n) e)
          go (no e) = let w = below j n l (omega (arith, other j e)) in omega arith

      pub later : k + 1 ≤ least_from b (next_of R F b D) m
      later = le_least b (next_of R F b D) m (k + 1) (omega arith) (λ j l. each j l (dec_lt (D j) (F j)) (ℕ_discrete j (k % 16)))
        where
          at : (k % 16 < m) × (C (k % 16) < F (k % 16)) × (k ≡ key_of (R (k % 16) (C (k % 16))) (k % 16))
          at = at_least C k ek hk

          each : (j : ℕ) → j < m → Dec (D j < F j) → Dec (j ≡ k % 16) → k + 1 ≤ next_of R F b D j
          each j l (no h) t = let v = next-out D j (omega arith) in omega arith
          each j l (yes h) (yes e) =
              let v = next_is D j h in
              let s : D j ≡ C (k % 16) + 1 = ap D e ∙ same in
              let w = ord.rising (k % 16) (C (k % 16)) at.0 (omega (arith, ap F e)) in
              let z : R j (D j) ≡ R (k % 16) (C (k % 16) + 1) = ap₂ R e s in
              omega (arith, at.2)
          each j l (yes h) (no e) =
              let v = next_is D j h in
              let s : D j ≡ C j = other j e in
              let u = next_is C j (omega arith) in
              let w = least_le b (next_of R F b C) m j l in
              let i = small j (omega arith) in
              let z : R j (D j) ≡ R j (C j) = ap (R j) s in
              omega (arith, at.2)

      pub turn : log_to m R F (least_from b (next_of R F b D) m) ≡ log_to m R F k ++ (ref_of (k % 16) (C (k % 16)) ∷ [])
      turn =
          let at = at_least C k ek hk in
          log-quiet m R F (k + 1) (least_from b (next_of R F b D) m) later (gap D (k + 1) passed)
          ∙ log-more m R F k ∙ ap (λ (l : List Ref). log_to m R F k ++ l) (entry-one k (C (k % 16)) at.0 at.1 at.2)

-- ---- arrays of sixteen counts
pub zeros : (n j : ℕ) → count_in (replicate n 0) j ≡ 0
zeros zero j = refl
zeros (suc n) zero = refl
zeros (suc n) (suc j) = zeros n j

pub sixteen : (l : List ℕ) → length l ≡ 16 → (i : ℕ) → 0 < count_in l i → i < 16
sixteen l e i h = go (dec_lt i 16)
  where
    go : Dec (i < 16) → i < 16
    go (yes a) = a
    go (no a) = absurd (let w = get_or-eq_default l 0 {n = i} (omega arith) in omega arith)

-- ---- the merge's state
pub record Merging (m : ℕ) (R : ℕ → ℕ → ℕ) (F : ℕ → ℕ) (stop : ℕ) (first cursors out : List ℕ) (count k : ℕ) : Type 0 where
  pub sized : length cursors ≡ 16
  pub least : k ≡ least_from stop (next_of R F stop (count_in cursors)) m
  pub below : Below m R (count_in cursors) k
  pub few : count ≤ k
  pub counted : count ≡ length (log_to m R F k)
  pub written : out ≡ fill (map block_id (log_to m R F k)) first

module _ (m : ℕ) (R : ℕ → ℕ → ℕ) (F : ℕ → ℕ) (ord : Ordered m R F) (small : (i : ℕ) → 0 < F i → i < 16) (stop : ℕ) (first : List ℕ) where
  pub merging_start : (cursors : List ℕ) (k : ℕ) → length cursors ≡ 16 → ((j : ℕ) → count_in cursors j ≡ 0)
      → k ≡ least_from stop (next_of R F stop (count_in cursors)) m → Merging m R F stop first cursors first 0 k
  unfolding log_to fill
  merging_start cursors k s z e =
      let below : Below m R (count_in cursors) 0 = λ j n l h. absurd (let w = z j in omega arith) in
      let none : log_to m R F k ≡ [] = log-quiet m R F 0 k (omega arith) (λ x a h. gap m R F ord small stop (count_in cursors) 0 below x a (omega arith)) in
      record {
        sized = s;
        least = e;
        below = λ j n l h. absurd (let w = z j in omega arith);
        few = omega arith;
        counted = sym (ap length none);
        written = sym (ap (λ (l : List Ref). fill (map block_id l) first) none);
      }

  module _ (cursors out : List ℕ) (count k : ℕ) (inv : Merging m R F stop first cursors out count k) (hk : k < stop) where
    pub cursor-below : count_in cursors (k % 16) < 128
    cursor-below =
        let at = at_least m R F ord small stop (count_in cursors) k inv.least hk in
        let w = ord.short (k % 16) at.0 in
        omega arith

    module _ (n : ℕ) (en : n ≡ count_in cursors (k % 16)) where
      same : count_in (set cursors (k % 16) (n + 1)) (k % 16) ≡ count_in cursors (k % 16) + 1
      same = get_or-set_same cursors (k % 16) (n + 1) 0 (omega (arith, inv.sized)) ∙ ap (λ (x : ℕ). x + 1) en

      other : (j : ℕ) → (j ≡ k % 16 → ⊥) → count_in (set cursors (k % 16) (n + 1)) j ≡ count_in cursors j
      other j h = get_or-set_other cursors (k % 16) j (n + 1) 0 h

      pub merging-later : k + 1 ≤ least_from stop (next_of R F stop (count_in (set cursors (k % 16) (n + 1)))) m
      merging-later = later m R F ord small stop (count_in cursors) (count_in (set cursors (k % 16) (n + 1))) k inv.least hk inv.below same other

      pub merging-turn : (k' : ℕ) (out' : List ℕ) → k' ≡ least_from stop (next_of R F stop (count_in (set cursors (k % 16) (n + 1)))) m
          → out' ≡ set out count (k % 16 * 128 + n) → Merging m R F stop first (set cursors (k % 16) (n + 1)) out' (count + 1) k'
      merging-turn k' out' e eo =
          let D : ℕ → ℕ = count_in (set cursors (k % 16) (n + 1)) in
          let b : Ref = ref_of (k % 16) n in
          let step : log_to m R F k' ≡ log_to m R F k ++ (b ∷ []) =
          ap (log_to m R F) e ∙ turn m R F ord small stop (count_in cursors) D k inv.least hk inv.below same other
          ∙ ap (λ (x : ℕ). log_to m R F k ++ (ref_of (k % 16) x ∷ [])) (sym en) in
          let l = merging-later in
          let grown : length (log_to m R F k') ≡ length (log_to m R F k) + 1 = ap length step ∙ length-append (log_to m R F k) (b ∷ []) in
          record {
            sized = length-set cursors (k % 16) (n + 1) ∙ inv.sized;
            least = e;
            below = λ j x i h. let w = passed m R F ord small stop (count_in cursors) D k inv.least hk inv.below same other j x i h in omega arith;
            few = omega (arith, inv.few);
            counted = omega (arith, inv.counted);
            written =
                eo ∙ ap₂ (λ (o : List ℕ) (c : ℕ). set o c (block_id b)) inv.written (inv.counted ∙ sym (length-map (log_to m R F k) block_id))
                ∙ fill_more (map block_id (log_to m R F k)) first (block_id b)
                ∙ ap (λ (l : List ℕ). fill l first) (sym (map-append block_id (log_to m R F k) (b ∷ [])))
                ∙ ap (λ (l : List Ref). fill (map block_id l) first) (sym step);
          }

-- past the bar the log is whole
pub merging_end : (m : ℕ) (R : ℕ → ℕ → ℕ) (F : ℕ → ℕ) (stop : ℕ) (first cursors out : List ℕ) (count k : ℕ)
    → Merging m R F stop first cursors out count k → stop ≡ bar_of m R F → stop ≤ k
    → (count ≡ length (global_log m R F)) × (out ≡ fill (map block_id (global_log m R F)) first)
unfolding global_log
merging_end m R F stop first cursors out count k inv es h =
    let l = least_le_start stop (next_of R F stop (count_in cursors)) m in
    let e : k ≡ bar_of m R F = omega (arith, inv.least) in
    (inv.counted ∙ ap (λ (x : ℕ). length (log_to m R F x)) e, inv.written ∙ ap (λ (x : ℕ). fill (map block_id (log_to m R F x)) first) e)
