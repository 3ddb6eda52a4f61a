-- Stores of several bytes: in a row, past the end, and what is read before and at the place of a store.
-- Assumes nothing.
use Prim.Native.Nat.{◌+◌, ◌-◌, ◌<◌, ◌≤◌, suc, ℕ}
use lib.ListN.{drop, get_or, length, length-append, length-drop, set, take, take-append-drop}
use lib.Seq.{drop-append-le, drop_at, length-take-le, set_out, sets, sets-eq, take-append-add, take-append-le, take_at, take-suc}
use mathlib.Core.List.{List, [], ◌++◌, ◌∷◌, append_assoc}
use mathlib.Core.Path.{◌∙◌, ◌≡◌, ap, refl, sym}
use native.Mathlib.Numerals.{add-one}
use native.Mathlib.Omega.{arith}
use Rattle.fields.proofs.NumberLaws.{le-front}
use Rattle.fields.specs.Number.{le}

-- two runs of stores in a row are one
pub sets_then : (xs ys l : List ℕ) (i j : ℕ) → j ≡ i + length xs → sets (sets l i xs) j ys ≡ sets l i (xs ++ ys)
sets_then [] ys l i j e = let q : j ≡ i = omega arith in rw q refl
sets_then (x ∷ xs) ys l i j e = sets_then xs ys (set l i x) (suc i) j (omega arith)

pub sets_out : (vs l : List ℕ) (at : ℕ) → length l ≤ at → sets l at vs ≡ l
sets_out [] l at h = refl
sets_out (v ∷ vs) l at h =
    let e = set_out l at v h in
    rw e (sets_out vs l (suc at) (omega arith))

-- a copying loop stores one element more
pub copy_more : (l s : List ℕ) (at k : ℕ) → k < length s → set (sets l at (take k s)) (at + k) (get_or s k 0) ≡ sets l at (take (k + 1) s)
copy_more l s at k h =
    let n = length-take-le k s (omega arith) in
    rw (add-one, take-suc s k 0 h) (sets_then (take k s) (get_or s k 0 ∷ []) l at (at + k) (omega arith))

-- what was stored from the start on, taken again
pub take-sets : (vs l : List ℕ) (n : ℕ) → length vs ≡ n → n ≤ length l → take n (sets l 0 vs) ≡ vs
take-sets vs l n e h = rw (sets-eq vs l 0 (omega arith)) (take_at vs (drop (0 + length vs) l) n e)

-- before the place of a store nothing changes; at it stand the stored bytes
module _ (l : List ℕ) (i : ℕ) (vs : List ℕ) (fits : i + length vs ≤ length l) where
  split : sets l i vs ≡ take i l ++ (vs ++ drop (i + length vs) l)
  split = sets-eq vs l i fits ∙ append_assoc (take i l) vs (drop (i + length vs) l)

  pub part_before : (n at : ℕ) → at + n ≤ i → take n (drop at (sets l i vs)) ≡ take n (drop at l)
  part_before n at h = before (vs ++ drop (i + length vs) l) split ∙ sym (before (drop i l) (sym (take-append-drop i l)))
    where
      before : {x : List ℕ} (r : List ℕ) → x ≡ take i l ++ r → take n (drop at x) ≡ take n (drop at (take i l))
      before r e =
          let long = length-take-le i l (omega arith) in
          rw e (ap (take n) (drop-append-le at (take i l) r (omega arith)) ∙ take-append-le n (drop at (take i l)) r (simp length-drop (omega arith)))

  pub number_before : (n at : ℕ) → at + n ≤ i → le n (sets l i vs) at ≡ le n l at
  number_before n at h = before (vs ++ drop (i + length vs) l) split ∙ sym (before (drop i l) (sym (take-append-drop i l)))
    where
      before : {x : List ℕ} (r : List ℕ) → x ≡ take i l ++ r → le n x at ≡ le n (take i l) at
      before r e = let long = length-take-le i l (omega arith) in rw e (le-front n (take i l) r at (omega arith))

  pub part_at : drop i (sets l i vs) ≡ vs ++ drop (i + length vs) l
  part_at = ap (drop i) split ∙ drop_at (take i l) (vs ++ drop (i + length vs) l) i (length-take-le i l (omega arith))

pub take-front : (b r : List ℕ) (n : ℕ) → length b ≤ n → take n (b ++ r) ≡ b ++ take (n - length b) r
take-front b r n h = let q : n ≡ length b + (n - length b) = omega arith in ap (λ (k : ℕ). take k (b ++ r)) q ∙ take-append-add b r (n - length b)

-- three runs of stores that follow each other from the start
pub three_runs : (H P Q l : List ℕ) (i j : ℕ) → i ≡ length H → j ≡ i + length P → sets (sets (sets l 0 H) i P) j Q ≡ sets l 0 (H ++ (P ++ Q))
three_runs H P Q l i j a b =
    let two : j ≡ 0 + length (H ++ P) = simp length-append (omega arith) in
    rw (sets_then H P l 0 i (omega arith)) (sets_then (H ++ P) Q l 0 j two ∙ ap (sets l 0) (append_assoc H P Q))
