-- The stores of the writers: what each loop's turn and each body's stores leave.
-- Assumes nothing.
use Prim.Native.Nat.{◌*◌, ◌+◌, ◌≤◌, ℕ}
use lib.ListN.{get_or, length, length-append, take}
use lib.Seq.{drop-length, get_or-take, length-take-le, sets, sets-eq}
use mathlib.Core.List.{List, ◌++◌, append-nil}
use mathlib.Core.Path.{◌∙◌, ◌≡◌, ap, refl, sym}
use native.Mathlib.Omega.{arith}
use Rattle.encoding.specs.Body.{block_body, cut_bytes, fixed_bytes, header_body, numbers_bytes}
use Rattle.fields.proofs.NumberLaws.{length-le_bytes}
use Rattle.fields.proofs.RowLaws.{length-numbers, rows_store}
use Rattle.fields.proofs.StoreLaws.{three_runs}
use Rattle.fields.specs.Number.{le_bytes, store_number}
use Rattle.fields.specs.Rows.{rows_to}
use Rattle.sums.proofs.SeqLaws.{length-tabulate, tabulate_is}
use Rattle.frames.specs.declared.block.Block.{Block}
use Rattle.frames.specs.declared.header.Header.{Header}

pub header_stores : (l : List ℕ) (h : Header) → length l ≡ 8
    → store_number 2 (store_number 2 (store_number 2 (store_number 2 l 0 h.m) 2 h.a) 4 h.g) 6 h.t ≡ header_body h
unfolding store_number header_body le_bytes
header_stores l h e =
    sets-eq (header_body h) l 0 (omega arith) ∙ ap (λ (r : List ℕ). header_body h ++ r) (rw e at (drop-length l)) ∙ append-nil (header_body h)

pub fixed_stores : (l : List ℕ) (b : Block) (count : ℕ)
    → store_number 2 (store_number 4 (store_number 2 (store_number 2 l 0 b.instance) 2 b.sequence.0) 4 b.rank.0) 8 count ≡ sets l 0 (fixed_bytes b count)
unfolding store_number le_bytes
fixed_stores l b count = refl

-- a loop stores one number of w bytes more
pub numbers_more : (w : ℕ) (l list : List ℕ) (at k : ℕ) {place : ℕ} {old new : List ℕ} → place ≡ at + w * k → old ≡ sets l at (rows_to k (λ i. le_bytes w (get_or list i 0)))
    → new ≡ store_number w old place (get_or list k 0) → new ≡ sets l at (rows_to (k + 1) (λ i. le_bytes w (get_or list i 0)))
unfolding store_number
numbers_more w l list at k p e q = q ∙ rw (p, e) (rows_store w (λ i. le_bytes w (get_or list i 0)) (λ i. length-le_bytes w (get_or list i 0)) l at k)

pub block_stores : (l : List ℕ) (m : ℕ) (b : Block) (cites : List ℕ)
    → sets (sets (sets l 0 (fixed_bytes b (length cites))) 10 (cut_bytes m b.cut)) (10 + 2 * m) (numbers_bytes cites) ≡ sets l 0 (block_body m b cites)
unfolding block_body
block_stores l m b cites =
    let fixed : 10 ≡ length (fixed_bytes b (length cites)) = simp (length-append, length-le_bytes) refl in
    let cut : 10 + 2 * m ≡ 10 + length (cut_bytes m b.cut) = simp (length-numbers, length-tabulate) refl in
    three_runs (fixed_bytes b (length cites)) (cut_bytes m b.cut) (numbers_bytes cites) l 10 (10 + 2 * m) fixed cut

-- the first m entries of a cut
pub cut_front : (m : ℕ) (cut : List ℕ) → m ≤ length cut → cut_bytes m cut ≡ numbers_bytes (take m cut)
cut_front m cut h =
    ap numbers_bytes (tabulate_is (take m cut) m (λ j. get_or cut j 0) 0 (length-take-le m cut h) (λ j lt. sym (get_or-take m cut j 0 lt)))
