-- A block's body, written and read back; and read and written again.
-- Assumes nothing.
use Rattle.std.proofs.Common.{Ok}
use Prim.Native.Nat.{◌*◌, ◌+◌, ◌<◌, ◌≤◌, ℕ}
use borrow.Author.Tests.{eqb-true, lt-ltb, ltb-true}
use lib.Dec.{eqb, ltb}
use lib.ListN.{drop, get_or, length, length-append, take}
use lib.Seq.{take_all}
use mathlib.Core.Bool.{Bool, false, true}
use mathlib.Core.List.{List, [], ◌++◌, append_assoc, append-nil}
use mathlib.Core.Path.{◌∙◌, ◌≡◌, ap, refl, sym}
use native.Mathlib.Nat.{add_assoc}
use native.Mathlib.Omega.{arith}
use Rattle.encoding.proofs.Lengths.{length-block}
use Rattle.encoding.specs.Body.{block_body, cut_bytes, cut_ok, fixed_bytes, numbers_bytes, unused_zero}
use Rattle.encoding.specs.Fits.{BlockFits}
use Rattle.fields.proofs.NumberLaws.{join, le_of_bytes, le_step, length-le_bytes, piece}
use Rattle.fields.proofs.RowLaws.{length-numbers, numbers-back, numbers-forth}
use Rattle.fields.specs.Number.{AreBytes, le, le_bytes}
use Rattle.frames.proofs.BlockLaws.{block-fine}
use Rattle.frames.specs.Block.{block_of, check_block, cites_of, cut_entry, cut_of}
use Rattle.ordering.proofs.Merge.{zeros}
use Rattle.sums.proofs.SeqLaws.{get_d_tabulate, length-tabulate, tabulate_ext, tabulate_is}
use Rattle.sums.proofs.TestLaws.{all_to_each, all_to_true, took}
use Rattle.sums.specs.Seq.{tabulate}
use Rattle.sums.specs.Test.{pick}
use Rattle.frames.specs.declared.block.Block.{Block}

-- one number of a list
number-back : (l post : List ℕ) (k : ℕ) → ((i : ℕ) → i < length l → get_or l i 0 < 65536) → k < length l → le 2 (numbers_bytes l ++ post) (2 * k) ≡ get_or l k 0
number-back l post k h lt =
    sym (get_d_tabulate (length l) (λ i. le 2 (numbers_bytes l ++ post) (2 * i)) k 0 lt) ∙ ap (λ (x : List ℕ). get_or x k 0) (numbers-back 2 l post h)

module _ (m : ℕ) (b : Block) (cites : List ℕ) (sized : BlockFits b cites) (few : length cites ≤ 32) where
  instance-back : le 2 (block_body m b cites) 0 ≡ b.instance
  unfolding block_body
  instance-back = simp append_assoc (le_of_bytes 2 b.instance _ sized.instance)

  sequence-back : le 2 (block_body m b cites) 2 ≡ b.sequence.0
  unfolding block_body
  sequence-back =
      simp append_assoc
      (le_step 2 (le_bytes 2 b.instance) _ 2 0 (length-le_bytes 2 _) ∙ le_of_bytes 2 b.sequence.0 _ sized.sequence)

  rank-back : le 4 (block_body m b cites) 4 ≡ b.rank.0
  unfolding block_body
  rank-back =
      simp append_assoc
      (le_step 4 (le_bytes 2 b.instance) _ 2 2 (length-le_bytes 2 _)
      ∙ le_step 4 (le_bytes 2 b.sequence.0) _ 2 0 (length-le_bytes 2 _)
      ∙ le_of_bytes 4 b.rank.0 _ sized.rank)

  pub count-back : le 2 (block_body m b cites) 8 ≡ length cites
  unfolding block_body
  count-back =
      simp append_assoc
      (le_step 2 (le_bytes 2 b.instance) _ 2 6 (length-le_bytes 2 _)
      ∙ le_step 2 (le_bytes 2 b.sequence.0) _ 2 4 (length-le_bytes 2 _)
      ∙ le_step 2 (le_bytes 4 b.rank.0) _ 4 0 (length-le_bytes 4 _)
      ∙ le_of_bytes 2 (length cites) _ (omega arith))

  fixed_long : length (fixed_bytes b (length cites)) ≡ 10
  fixed_long = simp (length-append, length-le_bytes) refl

  -- an entry of the cut; one that is not used is 0
  entry-back : m ≤ 16 → cut_ok m b.cut ≡ true → (j : ℕ) → j < 16 → cut_entry (block_body m b cites) m j ≡ get_or b.cut j 0
  unfolding block_body cut_ok pick
  entry-back small zeros j h = go (ltb j m) refl
    where
      go : (t : Bool) → ltb j m ≡ t → pick t (le 2 (block_body m b cites) (10 + 2 * j)) 0 ≡ get_or b.cut j 0
      go true e =
          let lt = ltb-true j m e in
          let f : ℕ → ℕ = λ i. get_or b.cut i 0 in
          le_step 2 (fixed_bytes b (length cites)) (cut_bytes m b.cut ++ numbers_bytes cites) 10 (2 * j) fixed_long
          ∙ number-back (tabulate m f) (numbers_bytes cites) j (λ i l. rw (get_d_tabulate m f i 0 (rw length-tabulate at l)) (sized.entries i)) (rw length-tabulate lt)
          ∙ get_d_tabulate m f j 0 lt
      go false e =
          let z = all_to_true 16 (λ i. unused_zero m i (get_or b.cut i 0)) zeros j h in
          sym (eqb-true (get_or b.cut j 0) 0 (rw e at z))

  pub block_back : m ≤ 16 → cut_ok m b.cut ≡ true → block_of (block_body m b cites) m ≡ b
  unfolding block_of cut_of
  block_back small zeros =
      let cut = tabulate_is b.cut 16 (cut_entry (block_body m b cites) m) 0 sized.sixteen (entry-back small zeros) in
      rw (instance-back, sequence-back, rank-back, cut) refl

  cite_back : (k : ℕ) → k < length cites → le 2 (block_body m b cites) (10 + 2 * m + 2 * k) ≡ get_or cites k 0
  unfolding block_body
  cite_back k h =
      let size : length (cut_bytes m b.cut) ≡ 2 * m = length-numbers 2 (tabulate m (λ i. get_or b.cut i 0)) ∙ rw length-tabulate refl in
      rw (add_assoc 10 (2 * m) (2 * k))
      (le_step 2 (fixed_bytes b (length cites)) (cut_bytes m b.cut ++ numbers_bytes cites) 10 (2 * m + 2 * k) fixed_long
      ∙ le_step 2 (cut_bytes m b.cut) (numbers_bytes cites) (2 * m) (2 * k) size
      ∙ (rw append-nil at (number-back cites [] k (λ i l. sized.numbers i) h)))

  pub cites-back : cites_of (block_body m b cites) m ≡ cites
  unfolding cites_of
  cites-back = rw count-back (tabulate_is cites (length cites) (λ k. le 2 (block_body m b cites) (10 + 2 * m + 2 * k)) 0 refl cite_back)

-- writing what was read
fixed_forth : (s : List ℕ) → AreBytes s → 10 ≤ length s
    → le_bytes 2 (le 2 s 0) ++ (le_bytes 2 (le 2 s 2) ++ (le_bytes 4 (le 4 s 4) ++ le_bytes 2 (le 2 s 8))) ≡ take 10 (drop 0 s)
fixed_forth s b h =
    rw (piece 2 0 s b (omega arith), piece 2 2 s b (omega arith), piece 4 4 s b (omega arith), piece 2 8 s b (omega arith))
    (ap (λ (r : List ℕ). take 2 (drop 0 s) ++ (take 2 (drop 2 s) ++ r)) (join 4 2 4 s)
    ∙ ap (λ (r : List ℕ). take 2 (drop 0 s) ++ r) (join 2 6 2 s)
    ∙ join 2 8 0 s)

assemble : (s F P Q : List ℕ) (m c : ℕ) → F ≡ take 10 (drop 0 s) → P ≡ take (2 * m) (drop 10 s) → Q ≡ take (2 * c) (drop (10 + 2 * m) s)
    → length s ≡ 10 + 2 * m + 2 * c → F ++ (P ++ Q) ≡ s
assemble s F P Q m c f p q long =
    rw (f, p, q, join (2 * m) (2 * c) 10 s, join 10 (2 * m + 2 * c) 0 s) (take_all (10 + (2 * m + 2 * c)) s (omega arith))

module _ (s : List ℕ) (m : ℕ) (b : AreBytes s) (small : m ≤ 16) (long : length s ≡ 10 + 2 * m + 2 * le 2 s 8) where
  cut-forth : cut_bytes m (cut_of s m) ≡ take (2 * m) (drop 10 s)
  unfolding cut_of
  cut-forth =
      ap numbers_bytes (tabulate_ext m (λ j. get_or (tabulate 16 (cut_entry s m)) j 0) (λ j. le 2 s (10 + 2 * j))
      (λ j lt. get_d_tabulate 16 (cut_entry s m) j 0 (omega arith) ∙ took _ (lt-ltb j m lt) refl))
      ∙ numbers-forth 2 m 10 s b (omega arith)

  pub block-forth : block_body m (block_of s m) (cites_of s m) ≡ s
  unfolding block_body block_of cites_of
  block-forth =
      rw (length-tabulate (le 2 s 8) (λ k. le 2 s (10 + 2 * m + 2 * k)))
      (assemble s _ _ _ m (le 2 s 8) (fixed_forth s b (omega arith)) cut-forth (numbers-forth 2 (le 2 s 8) (10 + 2 * m) s b (omega arith)) long)

-- a body that was written is fine
pub block_written : (m : ℕ) (b : Block) (cites : List ℕ) (at : ℕ) → BlockFits b cites → length cites ≤ 32 → check_block (block_body m b cites) at m ≡ Ok tt
block_written m b cites at fits few =
    let n = length-block m b cites in
    let c = count-back m b cites fits few in
    block-fine (block_body m b cites) at m (omega arith) (omega arith) (omega arith)

-- a block that was read has few citations, and no unused entry that is not 0
pub few-read : (b : List ℕ) (m : ℕ) → le 2 b 8 ≤ 32 → length (cites_of b m) ≤ 32
unfolding cites_of
few-read b m h = rw length-tabulate h

pub cut-read : (b : List ℕ) (m : ℕ) → cut_ok m (cut_of b m) ≡ true
unfolding cut_ok cut_of pick
cut-read b m = all_to_each 16 (λ j. unused_zero m j (get_or (tabulate 16 (cut_entry b m)) j 0)) (λ j h. rw (get_d_tabulate 16 (cut_entry b m) j 0 h) (one (ltb j m) (le 2 b (10 + 2 * j))))
  where
    one : (t : Bool) (v : ℕ) → pick {A = Bool} t true (eqb (pick {A = ℕ} t v 0) 0) ≡ true
    one true v = refl
    one false v = refl
