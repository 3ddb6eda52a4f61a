-- A list of citations by value: its places, its size, and how it is filled.
-- Assumes nothing.
use Rattle.std.proofs.Math.Seq.{take-append_seam}
use Prim.Native.Nat.{◌*◌, ◌+◌, ◌<◌, ◌≤◌, min, ℕ}
use lib.ListN.{get_or-eq_default, drop, get_or, length, length-take, take}
use lib.Seq.{get_or-take}
use mathlib.Core.List.{List, ◌++◌}
use mathlib.Core.Path.{◌∙◌, ◌≡◌, ap, refl, sym}
use native.Mathlib.Omega.{arith}
use Rattle.admission.specs.Citing.{Listed, cites_in}
use Rattle.sums.proofs.SeqLaws.{get_d_default, get_d_tabulate, length-tabulate, tabulate_is}
use Rattle.sums.specs.Seq.{tabulate}
use Rattle.admission.specs.declared.citations.Citations.{Citations}
use Rattle.settlement.specs.View.{no_cite}
use Rattle.frames.specs.Block.{cites_of}
use Rattle.fields.specs.Number.{le}
use Rattle.fields.proofs.NumberLaws.{le-drop}

-- ---- a place, and the size

module _ (c : Citations) (q : ℕ) where
  pub cite_past : min c.count (length c.numbers) ≤ q → 65535 ≡ get_or (cites_in c) q no_cite
  unfolding cites_in
  cite_past h = sym (get_or-eq_default (take c.count c.numbers) 65535 (omega (arith, length-take c.count c.numbers)))

  pub cite_in : q < c.count → q < length c.numbers → get_or c.numbers q 0 ≡ get_or (cites_in c) q no_cite
  unfolding cites_in
  cite_in h l = get_d_default c.numbers q 0 65535 l ∙ sym (get_or-take c.count c.numbers q 65535 h)

pub cite_read : (c : Citations) (q : ℕ) {v : ℕ} → q < c.count → v ≡ get_or c.numbers q 65535 → v ≡ get_or (cites_in c) q no_cite
unfolding cites_in
cite_read c q h e = e ∙ sym (get_or-take c.count c.numbers q 65535 h)

pub size_is : (c : Citations) → min c.count (length c.numbers) ≡ length (cites_in c)
unfolding cites_in
size_is c = sym (length-take c.count c.numbers)

-- ---- the first 32 of a list, as a table

first-of : (l : List ℕ) (n : ℕ) (f : ℕ → ℕ) → n ≡ min (length l) 32 → ((i : ℕ) → i < length l → f i ≡ get_or l i 0) → tabulate n f ≡ take 32 l
first-of l n f e h =
    tabulate_is (take 32 l) n f 0 (omega (arith, length-take 32 l))
    (λ i u. h i (omega arith) ∙ sym (get_or-take 32 l i 0 (omega arith)))

-- a list of 32 numbers of which the first n are a table's
filled : (l numbers : List ℕ) (n k : ℕ) (f : ℕ → ℕ) → length numbers ≡ 32 → n ≤ 32 → k ≤ n → n ≤ k → take k numbers ≡ tabulate k f → tabulate n f ≡ take 32 l
    → Listed (record { count = n; numbers = numbers }) l
unfolding cites_in
filled l numbers n k f s few a b e t =
    let q : n ≡ k = omega arith in
    record {
      held = ap (λ (j : ℕ). take j numbers) q ∙ e ∙ ap (λ (j : ℕ). tabulate j f) (sym q) ∙ t;
      size = omega (arith, length-take n numbers);
      few = few;
    }

pub list_filled : (l numbers : List ℕ) (n k : ℕ) → n ≡ min (length l) 32 → length numbers ≡ 32 → k ≤ n → n ≤ k → take k numbers ≡ tabulate k (λ i. get_or l i 0)
    → Listed (record { count = n; numbers = numbers }) l
list_filled l numbers n k e s a b t = filled l numbers n k (λ i. get_or l i 0) s (omega arith) a b t (first-of l n (λ i. get_or l i 0) e (λ i u. refl))

pub list_copied : (l d s : List ℕ) (n : ℕ) → s ≡ take n l → n ≡ min (length l) 32 → length (s ++ d) ≡ 32 → Listed (record { count = n; numbers = s ++ d }) l
unfolding cites_in
list_copied l d s n e m h =
    let full : length s ≡ n = omega (arith, ap length e, length-take n l) in
    record {
      held = ap (λ (k : ℕ). take k (s ++ d)) (sym full) ∙ take-append_seam s d ∙ e ∙ sym (tabulate_is (take n l) n _ 0 (omega (arith, length-take n l)) (λ i u. sym (get_or-take n l i 0 u)))
          ∙ first-of l n (λ i. get_or l i 0) m (λ i u. refl);
      size = omega (arith, length-take n (s ++ d));
      few = omega arith;
    }

-- ---- the citations of a body

abbrev pub cite_of : List ℕ → ℕ → ℕ → ℕ
cite_of b m k = le 2 b (10 + 2 * m + 2 * k)

pub cite-of : (b l : List ℕ) (m k v : ℕ) → l ≡ drop (10 + 2 * m) b → v ≡ le 2 l (2 * k) → v ≡ cite_of b m k
cite-of b l m k v e q = q ∙ ap (λ (s : List ℕ). le 2 s (2 * k)) e ∙ le-drop 2 b (10 + 2 * m) (2 * k)

pub body-filled : (b numbers : List ℕ) (m u n k : ℕ) → u ≡ le 2 b 8 → n ≡ min u 32 → length numbers ≡ 32 → k ≤ n → n ≤ k → take k numbers ≡ tabulate k (cite_of b m)
    → Listed (record { count = n; numbers = numbers }) (cites_of b m)
unfolding cites_of
body-filled b numbers m u n k p e s a b' t =
    filled (cites_of b m) numbers n k (cite_of b m) s (omega arith) a b' t
    (first-of (cites_of b m) n (cite_of b m) (omega (arith, length-tabulate (le 2 b 8) (cite_of b m)))
    (λ i h. sym (get_d_tabulate (le 2 b 8) (cite_of b m) i 0 (omega (arith, length-tabulate (le 2 b 8) (cite_of b m))))))
