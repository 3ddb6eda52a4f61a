-- Stores that follow each other are one store of what they wrote.
-- Assumes nothing.
use Prim.Native.Nat.{◌+◌, ◌<◌, ◌≤◌, suc, ℕ}
use lib.ListN.{drop, get_or, length, length-append, length-set, set, take}
use lib.Seq.{length-sets, set_out, sets, sets-eq, take_all, take-suc}
use mathlib.Core.List.{List, [], ◌++◌, ◌∷◌, append_assoc, append-nil}
use mathlib.Core.Path.{◌∙◌, ◌≡◌, ap, refl, sym}
use native.Mathlib.Decide.{dec_lt}
use native.Mathlib.Numerals.{add-one}
use native.Mathlib.Omega.{arith}
use Rattle.fields.proofs.StoreLaws.{sets_out}
use Rattle.text.specs.Wrote.{Wrote, place_after}

sets-after : (a b l : List ℕ) (at : ℕ) → sets (sets l at a) (place_after (length l) at (length a)) b ≡ sets l at (a ++ b)
sets-after [] b l at = ap (λ (p : ℕ). sets l p b) (omega arith)
sets-after (x ∷ a) b l at = elim (dec_lt at (length l)) [
  | yes h ↦
      let e : place_after (length l) at (suc (length a)) ≡ place_after (length (set l at x)) (suc at) (length a) = rw length-set (omega arith) in
      rw e (sets-after a b (set l at x) (suc at))
  | no h ↦
      let e : place_after (length l) at (suc (length a)) ≡ at = omega arith in
      let past : length l ≤ at = omega arith in
      rw e (ap (λ (m : List ℕ). sets m at b) (sets_out (x ∷ a) l at past) ∙ sets_out b l at past ∙ sym (sets_out ((x ∷ a) ++ b) l at past))
]

pub wrote_none : (l : List ℕ) (at : ℕ) → Wrote l at [] l at
wrote_none l at = record { bytes = refl; place = omega arith }

-- a byte behind the buffer's end
pub wrote_past : (l : List ℕ) (at b : ℕ) → length l ≤ at → Wrote l at (b ∷ []) l at
wrote_past l at b h = record { bytes = sym (set_out l at b h); place = omega arith }

pub wrote_length : {l a l' : List ℕ} {at p : ℕ} → Wrote l at a l' p → length l' ≡ length l
wrote_length {l} {a} {at = at} w = ap length w.bytes ∙ length-sets l at a

pub wrote_then : {l a l1 b l2 : List ℕ} {at p q : ℕ} → Wrote l at a l1 p → Wrote l1 p b l2 q → Wrote l at (a ++ b) l2 q
wrote_then {l} {a} {b = b} {at = at} w v =
    let n = wrote_length w in
    record {
      bytes = v.bytes ∙ rw (w.place, w.bytes) (sets-after a b l at);
      place = simp length-append (omega (arith, w.place, v.place, n));
    }

pub wrote_as : {l a b l' : List ℕ} {at p : ℕ} → a ≡ b → Wrote l at a l' p → Wrote l at b l' p
wrote_as e w = rw e at w

-- so much of a text is written that this is left of it
pub record Left (before : List ℕ) (at : ℕ) (text : List ℕ) (after : List ℕ) (p : ℕ) (left : List ℕ) : Type 0 where
  pub first : List ℕ
  pub wrote : Wrote before at first after p
  pub whole : first ++ left ≡ text

pub left-all : (l : List ℕ) (at : ℕ) (text : List ℕ) → Left l at text l at text
left-all l at text = record { first = []; wrote = wrote_none l at; whole = refl }

pub left_then : {l text l1 v rest l2 : List ℕ} {at p q : ℕ} → Left l at text l1 p (v ++ rest) → Wrote l1 p v l2 q → Left l at text l2 q rest
left_then {v = v} {rest} w u = record { first = w.first ++ v; wrote = wrote_then w.wrote u; whole = append_assoc w.first v rest ∙ w.whole }

pub left-none : {l text l1 : List ℕ} {at p : ℕ} → Left l at text l1 p [] → Wrote l at text l1 p
left-none w = wrote_as (sym (append-nil w.first) ∙ w.whole) w.wrote

-- in a buffer that is long enough: the text, and around it what was there
pub wrote_whole : {l v l' : List ℕ} {at p : ℕ} → Wrote l at v l' p → at + length v ≤ length l → (l' ≡ take at l ++ v ++ drop p l) × (p ≡ at + length v)
wrote_whole {l} {v} {at = at} {p} w h =
    let e : p ≡ at + length v = omega (arith, w.place) in
    (rw e (w.bytes ∙ sets-eq v l at h), e)

-- the place after stays in the buffer
pub wrote_within : {l v l' : List ℕ} {at p : ℕ} → Wrote l at v l' p → at ≤ length l → p ≤ length l'
wrote_within w h = omega (arith, w.place, wrote_length w)

-- a word, byte after byte
pub word_more : (word : List ℕ) {l l1 l2 : List ℕ} {at p q : ℕ} (k : ℕ) → k < length word → Wrote l at (take k word) l1 p → Wrote l1 p (get_or word k 0 ∷ []) l2 q
    → Wrote l at (take (k + 1) word) l2 q
word_more word k h w v = rw (add-one, take-suc word k 0 h) (wrote_then w v)

pub word_done : (word : List ℕ) {l l1 : List ℕ} {at p : ℕ} (k : ℕ) → length word ≤ k → Wrote l at (take k word) l1 p → Wrote l at word l1 p
word_done word k h w = rw (take_all k word h) at w
