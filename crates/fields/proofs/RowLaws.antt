-- Lists of rows of w bytes, written and read: one set of laws for every list of a frame.
-- Assumes nothing.
use Prim.Native.Nat.{◌*◌, ◌+◌, ◌<◌, ◌^◌, ◌≤◌, suc, zero, ℕ}
use lib.ListN.{drop, get_or, length, length-append, length-drop, take}
use lib.Seq.{drop_at, sets, take-add}
use mathlib.Core.List.{List, [], ◌++◌, append_assoc}
use mathlib.Core.Logic.{⊎_elim}
use mathlib.Core.Path.{◌∙◌, ◌≡◌, ap, refl, sym}
use native.Mathlib.Nat.{add-zero, eq-or-lt_of_le, le_of_suc-le-suc, mul-suc, mul-zero, not-suc-le-zero}
use native.Mathlib.Numerals.{add-one}
use native.Mathlib.Omega.{arith}
use Rattle.fields.proofs.NumberLaws.{AreBytes-drop, le-drop, le_of_bytes, length-le_bytes, piece}
use Rattle.fields.proofs.StoreLaws.{sets_then}
use Rattle.fields.specs.Number.{AreBytes, le, le_bytes}
use Rattle.fields.specs.Rows.{list_bytes, rows_to}
use Rattle.sums.proofs.SeqLaws.{tabulate_each, tabulate_ext, tabulate_is}
use Rattle.sums.specs.Seq.{tabulate}

pub rows_none : (g : ℕ → List ℕ) → rows_to 0 g ≡ []
unfolding rows_to
rows_none g = refl

-- only the rows below n matter
pub rows_same : (n : ℕ) (f g : ℕ → List ℕ) → ((k : ℕ) → k < n → f k ≡ g k) → rows_to n f ≡ rows_to n g
unfolding rows_to
rows_same zero f g h = refl
rows_same (suc n) f g h = rw (rows_same n f g (λ k lt. h k (omega arith)), h n (omega arith)) refl

module _ (w : ℕ) (g : ℕ → List ℕ) (each : (k : ℕ) → length (g k) ≡ w) where
  pub length_rows : (n : ℕ) → length (rows_to n g) ≡ w * n
  unfolding rows_to
  length_rows zero = sym (mul-zero w)
  length_rows (suc n) = rw (length-append, length_rows n, each n, mul-suc) refl

  -- a writer's loop stores row after row
  pub rows_store : (l : List ℕ) (at k : ℕ) → sets (sets l at (rows_to k g)) (at + w * k) (g k) ≡ sets l at (rows_to (k + 1) g)
  unfolding rows_to
  rows_store l at k = rw add-one (sets_then (rows_to k g) (g k) l at (at + w * k) (rw (length_rows k) refl))

  -- what stands from row k on
  pub rows_drop : (n k : ℕ) (post : List ℕ) → k < n → (rest : List ℕ) × (drop (w * k) (rows_to n g ++ post) ≡ g k ++ rest)
  unfolding rows_to
  rows_drop zero k post h = absurd (not-suc-le-zero h)
  rows_drop (suc n) k post h =
      rw append_assoc
      (⊎_elim
      (λ (q : k ≡ n). (post, rw q (drop_at (rows_to n g) (g n ++ post) (w * n) (length_rows n))))
      (λ lt. rows_drop n k (g n ++ post) lt)
      (eq-or-lt_of_le (le_of_suc-le-suc h)))

-- the bytes of a tabulate
pub list_tabulate : {A : Type 0} (enc : A → List ℕ) (none : A) (n : ℕ) (f : ℕ → A) → list_bytes enc none (tabulate n f) ≡ rows_to n (λ k. enc (f k))
unfolding list_bytes
list_tabulate enc none n f = tabulate_each none n f rows_to rows_same enc

module _ {A : Type 0} (w : ℕ) (enc : A → List ℕ) (none : A) (each : (x : A) → length (enc x) ≡ w) where
  pub length_list : (l : List A) → length (list_bytes enc none l) ≡ w * length l
  unfolding list_bytes
  length_list l = length_rows w (λ k. enc (get_or l k none)) (λ k. each (get_or l k none)) (length l)

  -- at reads the k-th row of some bytes as it reads the first from there on
  module _ (at : List ℕ → ℕ → A) (further : (s : List ℕ) (k : ℕ) → at s k ≡ at (drop (w * k) s) 0) where
    -- reading what was written
    pub list_back : (l : List A) (post : List ℕ) → ((k : ℕ) (rest : List ℕ) → k < length l → at (enc (get_or l k none) ++ rest) 0 ≡ get_or l k none)
        → tabulate (length l) (at (list_bytes enc none l ++ post)) ≡ l
    unfolding list_bytes
    list_back l post back =
        tabulate_is l (length l) (at (list_bytes enc none l ++ post)) none refl
        (λ k h.
        let r = rows_drop w (λ i. enc (get_or l i none)) (λ i. each (get_or l i none)) (length l) k post h in
        further (list_bytes enc none l ++ post) k ∙ ap (λ (s : List ℕ). at s 0) r.1 ∙ back k r.0 h)

    -- writing what was read
    module _ (forth : (s : List ℕ) → AreBytes s → w ≤ length s → enc (at s 0) ≡ take w s) where
      rows-forth : (n : ℕ) (s : List ℕ) → AreBytes s → w * n ≤ length s → rows_to n (λ k. enc (at s k)) ≡ take (w * n) s
      unfolding rows_to
      rows-forth zero s b h = rw mul-zero refl
      rows-forth (suc n) s b h =
          let h' = rw mul-suc at h in
          let last = ap enc (further s n) ∙ forth (drop (w * n) s) (AreBytes-drop (w * n) s b) (simp length-drop (omega arith)) in
          rw (rows-forth n s b (omega arith), last, mul-suc, take-add) refl

      pub list-forth : (n from : ℕ) (s : List ℕ) → AreBytes s → from + w * n ≤ length s → list_bytes enc none (tabulate n (at (drop from s))) ≡ take (w * n) (drop from s)
      list-forth n from s b h = list_tabulate enc none n (at (drop from s)) ∙ rows-forth n (drop from s) (AreBytes-drop from s b) (simp length-drop (omega arith))

-- numbers of w bytes
module _ (w : ℕ) where
  pub length-numbers : (l : List ℕ) → length (list_bytes (le_bytes w) 0 l) ≡ w * length l
  length-numbers l = length_list w (le_bytes w) 0 (length-le_bytes w) l

  number-further : (s : List ℕ) (k : ℕ) → le w s (w * k) ≡ le w (drop (w * k) s) (w * 0)
  number-further s k = rw (mul-zero, le-drop, add-zero)

  pub numbers-back : (l post : List ℕ) → ((k : ℕ) → k < length l → get_or l k 0 < 256 ^ w) → tabulate (length l) (λ k. le w (list_bytes (le_bytes w) 0 l ++ post) (w * k)) ≡ l
  numbers-back l post h =
      list_back w (le_bytes w) 0 (length-le_bytes w) (λ s k. le w s (w * k)) number-further l post (λ k rest lt. rw mul-zero (le_of_bytes w (get_or l k 0) rest (h k lt)))

  pub numbers-forth : (n at : ℕ) (s : List ℕ) → AreBytes s → at + w * n ≤ length s → list_bytes (le_bytes w) 0 (tabulate n (λ k. le w s (at + w * k))) ≡ take (w * n) (drop at s)
  numbers-forth n at s b h =
      ap (list_bytes (le_bytes w) 0) (tabulate_ext n _ _ (λ k lt. sym (le-drop w s at (w * k))))
      ∙ list-forth w (le_bytes w) 0 (length-le_bytes w) (λ r k. le w r (w * k)) number-further (λ r c g. rw mul-zero (piece w 0 r c (omega arith))) n at s b h
