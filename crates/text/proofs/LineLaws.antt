-- A line, written field by field.
-- Assumes nothing.
use Prim.Native.Nat.{◌+◌, ◌<◌, ◌≤◌, ℕ}
use lib.ListN.{get_or, length, take}
use lib.Seq.{take_all, take-suc}
use mathlib.Core.List.{List, [], ◌++◌, ◌∷◌, append_assoc, append-nil, map}
use mathlib.Core.Path.{◌∙◌, ◌≡◌, ap, refl, sym}
use native.Mathlib.Numerals.{add-one}
use Rattle.sums.proofs.SeqLaws.{map-append}
use Rattle.text.proofs.WroteLaws.{wrote_as, wrote_none, wrote_then}
use Rattle.text.specs.Ascii.{bytes_of}
use Rattle.text.specs.Text.{decimal, field, fields, line}
use Rattle.text.specs.Wrote.{Wrote}

fields-more : (l : List (List ℕ)) (f : List ℕ) → fields (l ++ (f ∷ [])) ≡ fields l ++ field f
unfolding fields
fields-more [] f = append-nil (field f)
fields-more (g ∷ l) f = ap (λ (s : List ℕ). field g ++ s) (fields-more l f) ∙ sym (append_assoc (field g) (fields l) (field f))

-- the first k fields, one more, and all of them between a word and the line feed
abbrev pub fields_to : List ℕ → ℕ → List ℕ
fields_to numbers k = fields (map decimal (take k numbers))

pub fields-none : (numbers l : List ℕ) (at : ℕ) → Wrote l at (fields_to numbers 0) l at
unfolding fields
fields-none numbers l at = wrote_none l at

fields-to : (numbers : List ℕ) (k : ℕ) → k < length numbers → fields_to numbers k ++ field (decimal (get_or numbers k 0)) ≡ fields_to numbers (k + 1)
fields-to numbers k h = rw (add-one, take-suc numbers k 0 h, map-append decimal (take k numbers) (get_or numbers k 0 ∷ []), fields-more) refl

pub fields_turn : (numbers : List ℕ) {l l1 l2 : List ℕ} {at p q : ℕ} (k : ℕ) → k < length numbers
    → Wrote l at (fields_to numbers k) l1 p → Wrote l1 p (field (decimal (get_or numbers k 0))) l2 q → Wrote l at (fields_to numbers (k + 1)) l2 q
fields_turn numbers k h w v = wrote_as (fields-to numbers k h) (wrote_then w v)

pub line_done : (word numbers : List ℕ) {l l1 l2 l3 : List ℕ} {at p q r : ℕ} (k : ℕ) → length numbers ≤ k
    → Wrote l at word l1 p → Wrote l1 p (fields_to numbers k) l2 q → Wrote l2 q (10 ∷ []) l3 r → Wrote l at (line word (map decimal numbers)) l3 r
unfolding line bytes_of
line_done word numbers k h u w v = rw (take_all k numbers h) at (wrote_then u (wrote_then w v))
