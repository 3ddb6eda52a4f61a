-- The table of counts, and the cells that hold a state of the contracts' fold.
-- Assumes nothing.
use Prim.Native.Nat.{◌*◌, ◌+◌, ◌<◌, ◌≤◌, min, suc, zero, ℕ}
use borrow.Author.Tests.{eqb-false, eqb-true, le-ltb, lt-ltb, ltb-false, ltb-true, ne_eqb}
use lib.Dec.{eqb, ltb}
use lib.ListN.{drop, get_or, length, length-set, length-take, replicate, set, take}
use lib.Seq.{ext_get_or, get_or-set_other, get_or-set_same}
use mathlib.Core.Bool.{Bool, false, not, true}
use mathlib.Core.List.{List, ◌++◌}
use mathlib.Core.Logic.{inr}
use mathlib.Core.Path.{◌∙◌, ◌≡◌, ap, ap₂, refl, sym}
use native.Mathlib.Decide.{dec_lt}
use native.Mathlib.Nat.{add-zero, zero-add}
use native.Mathlib.Numerals.{add-one}
use Rattle.std.specs.Int.{from_bool}
use Rattle.std.proofs.lemmas.List.Edits.{fill_more, fill_none}
use native.Mathlib.Omega.{arith}
use Rattle.ordering.specs.Table.{count_in}
use Rattle.settlement.specs.Cells.{rows_in}
use Rattle.settlement.specs.Inner.{Counts, Tally, add_at, count_at, count_one, count_row, count_rows, most, no_tally, with_event, with_row, with_rows}
use Rattle.settlement.specs.Settlement.{is_cite, is_fail}
use Rattle.settlement.specs.View.{Event, event_at}
use Rattle.sums.proofs.LoopLaws.{fold_length, written_none, written_turn}
use Rattle.sums.proofs.SeqLaws.{length-written, written_at, written_out}
use Rattle.sums.proofs.SumLaws.{sum_suc, sum_zero}
use Rattle.sums.proofs.TestLaws.{by-pick, given_false, given_true, pick-false, pick_true}
use Rattle.sums.specs.Fold.{fold_to}
use Rattle.sums.specs.Seq.{written}
use Rattle.sums.specs.Sum.{sum_to}
use Rattle.sums.specs.Test.{flip, given}

-- ---- the front of a list, written over

module _ (l : List ℕ) (n : ℕ) (f : ℕ → ℕ) where
  pub front_at : (k d : ℕ) → k < n → n ≤ length l → get_or (written l 0 n f) k d ≡ f k
  front_at k d h room =
      let e : 0 + k ≡ k = zero-add k in
      ap (λ (i : ℕ). get_or (written l 0 n f) i d) (sym e) ∙ written_at l 0 n f k d h (omega arith)

  pub front-past : (k d : ℕ) → n ≤ k → get_or (written l 0 n f) k d ≡ get_or l k d
  front-past k d h = written_out l 0 n f k d (inr (omega arith))

  pub front_turn : (a : List ℕ) (v : ℕ) → a ≡ written l 0 n f → v ≡ f n → set a n v ≡ written l 0 (n + 1) f
  front_turn a v e h =
      let q : 0 + n ≡ n = zero-add n in
      ap (λ (i : ℕ). set a i v) (sym q) ∙ written_turn l 0 n f a v e h

-- a list that holds f below n, and past n what l holds, is l with f written over its front
pub front_is : (l l' : List ℕ) (n : ℕ) (f : ℕ → ℕ) → n ≤ length l → length l' ≡ length l → ((i : ℕ) → i < n → get_or l' i 0 ≡ f i) → ((i : ℕ) → n ≤ i → get_or l' i 0 ≡ get_or l i 0)
    → l' ≡ written l 0 n f
front_is l l' n f room e here past =
    ext_get_or 0 l' (written l 0 n f) (e ∙ sym (length-written l 0 n f)) (λ i u. go i (dec_lt i n))
  where
    go : (i : ℕ) → Dec (i < n) → get_or l' i 0 ≡ get_or (written l 0 n f) i 0
    go i (yes u) = here i u ∙ sym (front_at l n f i 0 u room)
    go i (no u) = past i (omega arith) ∙ sym (front-past l n f i 0 (omega arith))

-- the front filled with one value
pub front_filled : (l : List ℕ) (v n : ℕ) → n ≤ length l → replicate n v ++ drop n l ≡ written l 0 n (λ k. v)
front_filled l v zero h = sym (fill_none l v) ∙ written_none l 0 (λ k. v)
front_filled l v (suc n) h =
    let e : replicate (n + 1) v ++ drop (n + 1) l ≡ written l 0 (n + 1) (λ k. v) =
    sym (fill_more n v l (omega arith)) ∙ front_turn l n (λ k. v) _ v (front_filled l v n (omega arith)) refl in
    rw add-one at e

-- as `fill` leaves it
pub filled_so : (l front : List ℕ) (v k n : ℕ) → k ≡ n → n ≤ length l → front ≡ replicate (length (take k l)) v → front ++ drop k l ≡ written l 0 n (λ i. v)
filled_so l front v k n e h q =
    let len : length (take k l) ≡ n = omega (arith, length-take k l) in
    ap₂ (λ (a b : List ℕ). a ++ b) (q ∙ ap (λ (i : ℕ). replicate i v) len) (ap (λ (i : ℕ). drop i l) e) ∙ front_filled l v n h

-- ---- cells

pub add_length : (c : List ℕ) (i n : ℕ) → length (add_at c i n) ≡ length c
unfolding add_at
add_length c i n = length-set c i _

pub count-length : (c : List ℕ) (x f : ℕ) → length (count_one c x f) ≡ length c
unfolding count_one
count-length c x f = add_length _ _ _ ∙ add_length _ _ _

pub counted_one : (c a b : List ℕ) (x f : ℕ) (g : Bool) → f ≡ from_bool (not g) → a ≡ add_at c (2 * x) 1 → b ≡ add_at a (2 * x + 1) f → b ≡ count_one c x (flip g)
unfolding count_one
counted_one c a b x f g e p q = q ∙ ap₂ (λ (l : List ℕ) (n : ℕ). add_at l (2 * x + 1) n) p (e ∙ failed g)
  where
    failed : (g : Bool) → from_bool (not g) ≡ flip g
    failed true = refl
    failed false = refl

cell_same : (c : List ℕ) (i n : ℕ) → i < length c → get_or (add_at c i n) i 0 ≡ min (get_or c i 0 + n) most
unfolding add_at
cell_same c i n h = get_or-set_same c i _ 0 h

cell_other : (c : List ℕ) (i j n : ℕ) → (j ≡ i → ⊥) → get_or (add_at c i n) j 0 ≡ get_or c j 0
unfolding add_at
cell_other c i j n h = get_or-set_other c i j _ 0 h

-- one more citation of x
pub counts-one : (t x f : ℕ) (o : List ℕ) (T : Tally) (c : List ℕ) → x < t → 2 * t ≤ length c → Counts t o T c
    → Counts t o (record { cited = λ y. T.cited y + given (eqb x y) 1; failed = λ y. T.failed y + given (eqb x y) f }) (count_one c x f)
unfolding count_one
counts-one t x f o T c h room k = record {
  cited = λ y l. one y l (eqb x y) refl;
  failed = λ y l. two y l (eqb x y) refl;
  size = add_length (add_at c (2 * x) 1) (2 * x + 1) f ∙ add_length c (2 * x) 1 ∙ k.size;
  past = λ i l. cell_other (add_at c (2 * x) 1) (2 * x + 1) i f (λ w. omega arith) ∙ cell_other c (2 * x) i 1 (λ w. omega arith) ∙ k.past i l;
}
  where
    one : (y : ℕ) → y < t → (b : Bool) → eqb x y ≡ b → get_or (add_at (add_at c (2 * x) 1) (2 * x + 1) f) (2 * y) 0 ≡ min (T.cited y + given b 1) most
    one y l true e =
        let q : x ≡ y = eqb-true x y e in
        cell_other (add_at c (2 * x) 1) (2 * x + 1) (2 * y) f (λ w. omega arith)
        ∙ ap (λ (n : ℕ). get_or (add_at c (2 * x) 1) (2 * n) 0) (sym q)
        ∙ cell_same c (2 * x) 1 (omega arith)
        ∙ omega (arith, k.cited x h, given_true true 1 refl, ap T.cited q)
    one y l false e =
        cell_other (add_at c (2 * x) 1) (2 * x + 1) (2 * y) f (λ w. omega arith)
        ∙ cell_other c (2 * x) (2 * y) 1 (λ w. eqb-false x y e (omega arith))
        ∙ omega (arith, k.cited y l, given_false false 1 refl)

    two : (y : ℕ) → y < t → (b : Bool) → eqb x y ≡ b → get_or (add_at (add_at c (2 * x) 1) (2 * x + 1) f) (2 * y + 1) 0 ≡ min (T.failed y + given b f) most
    two y l true e =
        let q : x ≡ y = eqb-true x y e in
        ap (λ (n : ℕ). get_or (add_at (add_at c (2 * x) 1) (2 * x + 1) f) (2 * n + 1) 0) (sym q)
        ∙ cell_same (add_at c (2 * x) 1) (2 * x + 1) f (omega (arith, add_length c (2 * x) 1))
        ∙ omega (arith, cell_other c (2 * x) (2 * x + 1) 1 (λ w. omega arith), k.failed x h, given_true true f refl, ap T.failed q)
    two y l false e =
        cell_other (add_at c (2 * x) 1) (2 * x + 1) (2 * y + 1) f (λ w. eqb-false x y e (omega arith))
        ∙ cell_other c (2 * x) (2 * y + 1) 1 (λ w. omega arith)
        ∙ omega (arith, k.failed y l, given_false false f refl)

pub counts_ext : (t : ℕ) (o : List ℕ) (T T' : Tally) (c : List ℕ) → ((y : ℕ) → y < t → T.cited y ≡ T'.cited y) → ((y : ℕ) → y < t → T.failed y ≡ T'.failed y) → Counts t o T c → Counts t o T' c
counts_ext t o T T' c p q k = record {
  cited = λ y l. k.cited y l ∙ ap (λ (n : ℕ). min n most) (p y l);
  failed = λ y l. k.failed y l ∙ ap (λ (n : ℕ). min n most) (q y l);
  size = k.size;
  past = k.past;
}

-- ---- the pass over a view

-- what the code does at a place
module _ (cites' good : List ℕ) (j p t x : ℕ) (c : List ℕ) (ex : x ≡ get_or cites' (j * 4096 + p) 65535) where
  pub count-in : (g : Bool) (c' : List ℕ) → g ≡ eqb (get_or good (j * 4096 + p) 0) 1 → x < t → c' ≡ count_one c x (flip g) → c' ≡ count_at t cites' good j p c
  unfolding count_at
  count-in g c' eg h e =
      e ∙ ap₂ (λ (n : ℕ) (b : Bool). count_one c n (flip b)) ex eg ∙ sym (pick_true _ _ _ (lt-ltb (get_or cites' (j * 4096 + p) 65535) t (omega arith)))

  pub count_out : t ≤ x → c ≡ count_at t cites' good j p c
  unfolding count_at
  count_out h = sym (pick-false _ _ _ (le-ltb (get_or cites' (j * 4096 + p) 65535) t (omega arith)))

module _ (t : ℕ) (cites' good : List ℕ) where
  at_length : (j p : ℕ) (c : List ℕ) → length (count_at t cites' good j p c) ≡ length c
  unfolding count_at
  at_length j p c = by-pick (λ (l : List ℕ). length l ≡ length c) _ (λ e. count-length c _ _) (λ e. refl)

  pub row-length : (j n : ℕ) (c : List ℕ) → length (count_row t cites' good j n c) ≡ length c
  unfolding count_row
  row-length j n c = fold_length n (count_at t cites' good j) c (λ k a. at_length j k a)

  pub rows_length : (view : List ℕ) (m : ℕ) (c : List ℕ) → length (count_rows t cites' good view m c) ≡ length c
  unfolding count_rows
  rows_length view m c = fold_length m (λ j. count_row t cites' good j (count_in view j)) c (λ k a. row-length k (count_in view k) a)

-- what it makes of a tally
module _ (ranks cites' good : List ℕ) (j p : ℕ) where
  abbrev here : Event
  here = event_at (rows_in ranks cites' good) j p

  pub event_tx : (x : ℕ) → x ≡ get_or cites' (j * 4096 + p) 65535 → here.tx ≡ x
  unfolding event_at rows_in
  event_tx x e = sym e

  pub event_good : (g : Bool) → g ≡ eqb (get_or good (j * 4096 + p) 0) 1 → here.good ≡ g
  unfolding event_at rows_in
  event_good g e = sym e

  counts_at : (t : ℕ) (o : List ℕ) (T : Tally) (c : List ℕ) → 2 * t ≤ length c → Counts t o T c → Counts t o (with_event here T) (count_at t cites' good j p c)
  unfolding count_at is_cite is_fail event_at rows_in
  counts_at t o T c room k =
      by-pick (Counts t o (with_event here T)) (ltb (get_or cites' (j * 4096 + p) 65535) t)
      (λ e. counts_ext t o _ _ _ (λ y l. refl) (λ y l. refl) (counts-one t _ _ o T c (ltb-true _ t e) room k))
      (λ e.
      let far : (y : ℕ) → y < t → eqb (get_or cites' (j * 4096 + p) 65535) y ≡ false =
      λ y l. ne_eqb _ y (λ (w : get_or cites' (j * 4096 + p) 65535 ≡ y). omega (arith, ltb-false (get_or cites' (j * 4096 + p) 65535) t e, w)) in
      counts_ext t o T (with_event here T) c
      (λ y l. sym (ap (λ (n : ℕ). T.cited y + n) (given_false _ _ (far y l)) ∙ add-zero _))
      (λ y l. sym (ap (λ (n : ℕ). T.failed y + n) (given_false _ _ (far y l)) ∙ add-zero _)) k)

module _ (ranks cites' good : List ℕ) (t : ℕ) (o : List ℕ) where
  counts-row : (j n : ℕ) (T : Tally) (c : List ℕ) → 2 * t ≤ length c → Counts t o T c → Counts t o (with_row n (event_at (rows_in ranks cites' good) j) T) (count_row t cites' good j n c)
  unfolding count_row fold_to
  counts-row j zero T c room k = counts_ext t o T _ c (λ y l. omega (arith, sum_zero (λ p. is_cite y (event_at (rows_in ranks cites' good) j p))))
      (λ y l. omega (arith, sum_zero (λ p. is_fail y (event_at (rows_in ranks cites' good) j p)))) k
  counts-row j (suc n) T c room k =
      counts_ext t o (with_event (event_at (rows_in ranks cites' good) j n) (with_row n (event_at (rows_in ranks cites' good) j) T)) _ _
      (λ y l. omega (arith, sum_suc n (λ p. is_cite y (event_at (rows_in ranks cites' good) j p)))) (λ y l. omega (arith, sum_suc n (λ p. is_fail y (event_at (rows_in ranks cites' good) j p))))
      (counts_at ranks cites' good j n t o _ (count_row t cites' good j n c) (omega (arith, row-length t cites' good j n c)) (counts-row j n T c room k))

  pub counts_rows : (view : List ℕ) (m : ℕ) (T : Tally) (c : List ℕ) → 2 * t ≤ length c → Counts t o T c
      → Counts t o (with_rows m (rows_in ranks cites' good) (count_in view) T) (count_rows t cites' good view m c)
  unfolding count_rows fold_to
  counts_rows view zero T c room k =
      counts_ext t o T _ c (λ y l. omega (arith, sum_zero (λ j. sum_to (count_in view j) (λ p. is_cite y (event_at (rows_in ranks cites' good) j p)))))
      (λ y l. omega (arith, sum_zero (λ j. sum_to (count_in view j) (λ p. is_fail y (event_at (rows_in ranks cites' good) j p))))) k
  counts_rows view (suc m) T c room k =
      counts_ext t o (with_row (count_in view m) (event_at (rows_in ranks cites' good) m) (with_rows m (rows_in ranks cites' good) (count_in view) T)) _ _
      (λ y l. omega (arith, sum_suc m (λ j. sum_to (count_in view j) (λ p. is_cite y (event_at (rows_in ranks cites' good) j p)))))
      (λ y l. omega (arith, sum_suc m (λ j. sum_to (count_in view j) (λ p. is_fail y (event_at (rows_in ranks cites' good) j p)))))
      (counts-row m (count_in view m) _ (count_rows t cites' good view m c) (omega (arith, rows_length t cites' good view m c)) (counts_rows view m T c room k))

-- ---- clearing

pub cleared : (t : ℕ) (o : List ℕ) → 2 * t ≤ length o → Counts t o no_tally (written o 0 (2 * t) (λ i. 0))
cleared t o h = record {
  cited = λ x l. front_at o (2 * t) (λ i. 0) (2 * x) 0 (omega arith) h;
  failed = λ x l. front_at o (2 * t) (λ i. 0) (2 * x + 1) 0 (omega arith) h;
  size = length-written o 0 (2 * t) (λ i. 0);
  past = λ i l. front-past o (2 * t) (λ i. 0) i 0 l;
}
