-- Lines of lists, one after the other.
-- Assumes nothing.
use Prim.Native.Nat.{◌+◌, ◌<◌, ◌≤◌, min, suc, zero, ℕ}
use lib.ListN.{get_or, length, take}
use lib.Seq.{take_all}
use mathlib.Core.List.{List, [], ◌++◌, ◌∷◌, append_assoc, append-nil, map, zip, zip_with}
use mathlib.Core.Logic.{◌⊎◌, inl, inr}
use mathlib.Core.Path.{◌∙◌, ◌≡◌, ap, refl, sym}
use native.Mathlib.Numerals.{add-one}
use native.Mathlib.Omega.{arith}
use Rattle.std.proofs.Common.{rules}
use Rattle.ordering.specs.Order.{Ref}
use Rattle.plain.specs.Report as Q
use Rattle.plain.specs.Report.{Report, lists_of, value_of}
use Rattle.settlement.specs.Tables.{code_of, status_of}
use Rattle.text.proofs.StatusLaws.{statuses_of}
use Rattle.text.proofs.WroteLaws.{Left, left_then, left-none, wrote_as, wrote_none, wrote_then}
use Rattle.text.specs.Lines.{log_line, tx_line}
use Rattle.text.specs.Tail.{code_lines, lines_from, lists_text, log_lines, number_lines, pair_lines, tail_text, tx_lines}
use Rattle.text.specs.Wrote.{Wrote}

-- ---- two lists side by side

pub length_zip : (a b : List ℕ) → length (zip a b) ≡ min (length a) (length b)
unfolding zip zip_with
length_zip [] b = omega arith
length_zip (x ∷ a) [] = omega arith
length_zip (x ∷ a) (y ∷ b) = omega (arith, length_zip a b)

pub take_zip : (n : ℕ) (a b : List ℕ) → take n (zip a b) ≡ zip (take n a) (take n b)
unfolding zip zip_with
take_zip zero a b = refl
take_zip (suc n) [] b = refl
take_zip (suc n) (x ∷ a) [] = refl
take_zip (suc n) (x ∷ a) (y ∷ b) = ap (λ l. (x, y) ∷ l) (take_zip n a b)

pub zip_at : (a b : List ℕ) (k : ℕ) → k < length a → k < length b → get_or (zip a b) k (0, 0) ≡ (get_or a k 0, get_or b k 0)
unfolding zip zip_with
zip_at [] b k h u = absurd (omega arith)
zip_at (x ∷ a) [] k h u = absurd (omega arith)
zip_at (x ∷ a) (y ∷ b) zero h u = refl
zip_at (x ∷ a) (y ∷ b) (suc k) h u = zip_at a b k (omega arith) (omega arith)

-- ---- a line more

lines_to : {A : Type 0} (f : ℕ → A → List ℕ) (s : ℕ) (l : List A) (k j : ℕ) (d : A) → k < length l → j ≡ s + k
    → lines_from f s (take k l) ++ f j (get_or l k d) ≡ lines_from f s (take (suc k) l)
unfolding lines_from
lines_to f s [] k j d h e = absurd (omega arith)
lines_to f s (x ∷ l) zero j d h e = ap (λ (i : ℕ). f i x) (let q : j ≡ s = omega arith in q) ∙ sym (append-nil (f s x))
lines_to f s (x ∷ l) (suc k) j d h e =
    append_assoc (f s x) (lines_from f (suc s) (take k l)) (f j (get_or l k d))
    ∙ ap (λ (t : List ℕ). f s x ++ t) (lines_to f (suc s) l k j d (omega arith) (omega arith))

-- a loop that writes the line of each member: before the first, after member k, and where it stops at the list's end
module _ {A : Type 0} (f : ℕ → A → List ℕ) (m : List A) where
  pub lines_none : (l : List ℕ) (at : ℕ) → Wrote l at (lines_from f 0 (take 0 m)) l at
  unfolding lines_from
  lines_none l at = wrote_none l at

  pub lines_turn : {l l1 l2 : List ℕ} {at p q : ℕ} (k : ℕ) (d : A) → k < length m
      → Wrote l at (lines_from f 0 (take k m)) l1 p → Wrote l1 p (f k (get_or m k d)) l2 q → Wrote l at (lines_from f 0 (take (k + 1) m)) l2 q
  lines_turn k d h w u = rw add-one (wrote_as (lines_to f 0 m k k d h (omega arith)) (wrote_then w u))

  pub lines_all : {l l1 : List ℕ} {at p : ℕ} (k : ℕ) → length m ≤ k → Wrote l at (lines_from f 0 (take k m)) l1 p → Wrote l at (lines_from f 0 m) l1 p
  lines_all k h w = rw (take_all k m h) at w

-- the same of two lists, by what is left of them: one line more, and where one of them has ended
abbrev pub pairs_from : (ℕ → ℕ → ℕ → List ℕ) → ℕ → List ℕ → List ℕ → List ℕ
pairs_from f k a b = lines_from (λ i p. f i p.0 p.1) k (zip a b)

module _ (f : ℕ → ℕ → ℕ → List ℕ) {l text l1 : List ℕ} {at p : ℕ} where
  pub pairs_turn : {a a' b b' l2 : List ℕ} {x y q : ℕ} (k j : ℕ) → (a ≡ x ∷ a') × (b ≡ y ∷ b') → j ≡ suc k
      → Left l at text l1 p (pairs_from f k a b) → Wrote l1 p (f k x y) l2 q → Left l at text l2 q (pairs_from f j a' b')
  unfolding lines_from zip zip_with
  pairs_turn k j h e w u = rw e (left_then (rw (h.0, h.1) at w) u)

  pub pairs_end : (a b : List ℕ) (k : ℕ) → (a ≡ []) ⊎ (b ≡ []) → Left l at text l1 p (pairs_from f k a b) → Wrote l at text l1 p
  unfolding lines_from zip zip_with
  pairs_end [] b k h w = left-none w
  pairs_end (x ∷ a) [] k h w = left-none w
  pairs_end (x ∷ a) (y ∷ b) k (inl e) w = absurd (search rules)
  pairs_end (x ∷ a) (y ∷ b) k (inr e) w = absurd (search rules)

-- ---- lines of a list's images

lines_map : {A B : Type 0} (f : ℕ → B → List ℕ) (g : A → B) (k : ℕ) (l : List A) → lines_from f k (map g l) ≡ lines_from (λ i x. f i (g x)) k l
unfolding lines_from
lines_map f g k [] = refl
lines_map f g k (x ∷ l) = ap (λ (t : List ℕ). f k (g x) ++ t) (lines_map f g (suc k) l)

pairs_map : {A : Type 0} (f : ℕ → ℕ → ℕ → List ℕ) (g h : A → ℕ) (k : ℕ) (l : List A)
    → lines_from (λ i p. f i p.0 p.1) k (zip (map g l) (map h l)) ≡ lines_from (λ i x. f i (g x) (h x)) k l
unfolding lines_from zip zip_with
pairs_map f g h k [] = refl
pairs_map f g h k (x ∷ l) = ap (λ (t : List ℕ). f k (g x) (h x) ++ t) (pairs_map f g h (suc k) l)

-- transactions by their settlements' numbers
pub codes_are : (codes : List ℕ) → lines_from (λ x c. tx_line x (status_of c)) 0 codes ≡ code_lines codes
unfolding code_lines tx_lines
codes_are codes = sym (lines_map tx_line status_of 0 codes)

logs-of : (l : List Ref) → number_lines (map (λ (b : Ref). b.instance) l) (map (λ (b : Ref). b.index + 1) l) ≡ log_lines l
unfolding number_lines pair_lines log_lines
logs-of l = pairs_map (λ k. log_line) (λ (b : Ref). b.instance) (λ (b : Ref). b.index + 1) 0 l

-- the lists that the calls for readings fill give the report's text
pub tail_of : (r : Report) (instances numbers codes free held registers : List ℕ)
    → instances ∷ numbers ∷ [] ≡ lists_of Q.log r → codes ∷ [] ≡ lists_of Q.settlements r → free ∷ held ∷ [] ≡ lists_of Q.accounts r → registers ∷ [] ≡ lists_of Q.registers r
    → lists_text instances numbers codes free held registers (value_of Q.share r) ≡ tail_text r
unfolding lists_text tail_text lists_of value_of code_lines
tail_of r i s c f h g el es ea er =
    let ei : i ≡ map (λ (b : Ref). b.instance) r.log = cc in
    let en : s ≡ map (λ (b : Ref). b.index + 1) r.log = cc in
    let ec : c ≡ map code_of r.settlements = cc in
    let ef : f ≡ r.free = cc in
    let eh : h ≡ r.held = cc in
    let eg : g ≡ r.registers = cc in
    rw (ei, en, ec, ef, eh, eg, logs-of r.log, statuses_of r.settlements) refl
