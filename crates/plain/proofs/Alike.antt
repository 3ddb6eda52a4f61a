-- Two histories that are alike as far as the heights go: they grow alike, and get the same answers.
-- Assumes nothing.
use Prim.Native.Nat.{◌*◌, ◌+◌, ◌-◌, ◌/◌, ◌<◌, ℕ}
use borrow.Author.Tests.{leb-false}
use lib.Dec.{eqb, leb, ltb}
use lib.ListN.{get_or, length}
use mathlib.Core.Bool.{Bool, not, true}
use mathlib.Core.Logic.{inl, inr}
use mathlib.Core.Path.{◌∙◌, ◌≡◌, ap, refl, sym}
use native.Mathlib.Decide.{ℕ_discrete}
use native.Mathlib.Omega.{arith}
use Rattle.escrow.proofs.Growth.{Extends}
use Rattle.escrow.specs.Outcome.{History}
use Rattle.ordering.proofs.Laws.{last_ext}
use Rattle.ordering.specs.Order.{last_of}
use Rattle.plain.proofs.AnswerLaws.{first_to_ext, refuse_pass, then_ext}
use Rattle.plain.specs.Answer.{Answer, ◌then◌, refuse}
use Rattle.plain.specs.Plain.{answer, block_answer, cite_answer, cited_before, entry_off, front_answer, last_entry, last_rank, lent_answer, idle_answer}
use Rattle.sums.proofs.TestLaws.{any_to_ext}
use Rattle.sums.specs.Test.{any_to, both, pick}
use Rattle.plain.proofs.Engine.{Alike, Grown}
use Rattle.plain.proofs.GrownLaws.{Which, new_cell, new_entry, new_rank, split}
use Rattle.plain.specs.Offers.{Offer, lent_of, offer_needs, offered}
use Rattle.plain.specs.Logs.{Values}
use Rattle.sheets.specs.Parts.{has_part}
use Rattle.sheets.specs.Sheet.{tx_count, Sheet}
use Rattle.settlement.specs.View.{no_cite}

pub alike_extends : (S : Sheet) (H H' : History) → Alike S.m H H' → Extends S H H'
alike_extends S H H' a = record { longer = λ j l. omega (arith, a.heights j l); ranks = a.ranks; entries = a.entries; cells = a.cells }

-- ---- the same answers

-- what the block before says, 0 if none
last_alike : {h h' : ℕ} (f g : ℕ → ℕ) → h ≡ h' → ((n : ℕ) → n < h → f n ≡ g n) → last_of f h ≡ last_of g h'
last_alike {h} f g e same = last_ext f g h same ∙ ap (last_of g) e

module _ (S : Sheet) (H H' : History) (b : Values) (a : Alike S.m H H') (l : b.instance < S.m) where
  last_rank-alike : last_rank H b.instance ≡ last_rank H' b.instance
  unfolding last_rank
  last_rank-alike = last_alike (H.rank b.instance) (H'.rank b.instance) (a.heights b.instance l) (λ n u. a.ranks b.instance n l u)

  last_entry-alike : (e : ℕ) → e < S.m → last_entry H b.instance e ≡ last_entry H' b.instance e
  unfolding last_entry
  last_entry-alike e k = last_alike (λ n. H.entry b.instance n e) (λ n. H'.entry b.instance n e) (a.heights b.instance l) (λ n u. a.entries b.instance n e l u k)

  cite_alike : (q : ℕ) → cite_answer S H b q ≡ cite_answer S H' b q
  unfolding cite_answer cited_before
  cite_alike q =
      let x : ℕ = get_or b.cites q no_cite in
      let c : any_to (H.height b.instance * 32) (λ p. eqb (H.cell b.instance p) x) ≡ any_to (H'.height b.instance * 32) (λ p. eqb (H'.cell b.instance p) x) =
      any_to_ext (H.height b.instance * 32) _ _ (λ p u. ap (λ (y : ℕ). eqb y x) (a.cells b.instance p l u))
      ∙ ap (λ (n : ℕ). any_to (n * 32) (λ p. eqb (H'.cell b.instance p) x)) (a.heights b.instance l) in
      ap (λ (t : Bool). refuse (leb (tx_count S) x) 13 q then refuse (not (has_part S x b.instance)) 14 q then refuse (pick t true (any_to q (λ q'. eqb (get_or b.cites q' no_cite) x))) 15 q) c

pub block-alike : (S : Sheet) (H H' : History) (b : Values) → Alike S.m H H' → block_answer S H b ≡ block_answer S H' b
unfolding block_answer
block-alike S H H' b a =
    then_ext _ _ _ _ refl (λ t8.
    let l : b.instance < S.m = leb-false S.m b.instance (refuse_pass _ _ _ t8) in
    let h : H.height b.instance ≡ H'.height b.instance = a.heights b.instance l in
    then_ext _ _ _ _ (ap (λ (n : ℕ). refuse (leb 128 n) 17 0) h) (λ t17.
    then_ext _ _ _ _ (ap (λ (n : ℕ). refuse (not (eqb b.number (n + 1))) 9 (n + 1)) h) (λ t9.
    then_ext _ _ _ _ (ap (λ (r : ℕ). refuse (leb b.rank r) 10 r) (last_rank-alike S H H' b a l)) (λ t10.
    then_ext _ _ _ _ (first_to_ext S.m _ _ (λ e u. entries e u l)) (λ t11.
    then_ext _ _ _ _ (first_to_ext S.m _ _ (λ e u. ap (λ (n : ℕ). refuse (ltb n (get_or b.cut e 0)) 12 e) (a.heights e u))) (λ t12.
    first_to_ext (length b.cites) _ _ (λ q u. cite_alike S H H' b a l q)))))))
  where
    entries : (e : ℕ) → e < S.m → b.instance < S.m → refuse (entry_off H b e) 11 e ≡ refuse (entry_off H' b e) 11 e
    entries e u l = unfold entry_off in ap (λ (n : ℕ). refuse (pick (both (eqb e b.instance) (not (eqb (get_or b.cut e 0) (b.number - 1)))) true (ltb (get_or b.cut e 0) n)) 11 e) (last_entry-alike S H H' b a l e u)

pub answer-alike : (S : Sheet) (H H' : History) (o : Offer) → Alike S.m H H' → answer S H o ≡ answer S H' o
unfolding answer
answer-alike S H H' o a = ap (λ (x : Answer). idle_answer o then lent_answer (offer_needs S) (lent_of o) then front_answer S o then x) (block-alike S H H' (offered S o) a)

-- ---- alike histories that grow by the same block are alike

pub grown_alike : (m : ℕ) (b : Values) (H H' G G' : History) → b.instance < m → Alike m H H' → Grown m b H G → Grown m b H' G' → Alike m G G'
grown_alike m b H H' G G' l a g g' = record { heights = heights; ranks = ranks; entries = entries; cells = cells }
  where
    heights : (j : ℕ) → j < m → G.height j ≡ G'.height j
    heights j k = elim (ℕ_discrete j b.instance) [
      | yes q ↦ rw q (omega (arith, g.more, g'.more, a.heights b.instance l))
      | no q ↦ g.others j k q ∙ a.heights j k ∙ sym (g'.others j k q)
    ]

    h : H.height b.instance ≡ H'.height b.instance
    h = a.heights b.instance l

    rank_new : (j n : ℕ) → Which b H j n → j < m → G.rank j n ≡ G'.rank j n
    rank_new j n (inl u) k = g.old_rank j n k u ∙ a.ranks j n k u ∙ sym (g'.old_rank j n k (omega (arith, a.heights j k)))
    rank_new j n (inr u) k = new_rank g u.0 u.1 ∙ sym (new_rank g' u.0 (u.1 ∙ h))

    ranks : (j n : ℕ) → j < m → n < G.height j → G.rank j n ≡ G'.rank j n
    ranks j n k u = rank_new j n (split g j n k u) k

    entry_new : (j n e : ℕ) → Which b H j n → j < m → e < m → G.entry j n e ≡ G'.entry j n e
    entry_new j n e (inl u) k w = g.old_entry j n e k u w ∙ a.entries j n e k u w ∙ sym (g'.old_entry j n e k (omega (arith, a.heights j k)) w)
    entry_new j n e (inr u) k w = new_entry g e w u.0 u.1 ∙ sym (new_entry g' e w u.0 (u.1 ∙ h))

    entries : (j n e : ℕ) → j < m → n < G.height j → e < m → G.entry j n e ≡ G'.entry j n e
    entries j n e k u w = entry_new j n e (split g j n k u) k w

    cell_new : (j p : ℕ) → Which b H j (p / 32) → j < m → G.cell j p ≡ G'.cell j p
    cell_new j p (inl u) k = g.old_cell j p k (omega arith) ∙ a.cells j p k (omega arith) ∙ sym (g'.old_cell j p k (omega (arith, a.heights j k)))
    cell_new j p (inr u) k = new_cell g p u.0 u.1 ∙ sym (new_cell g' p u.0 (u.1 ∙ h))

    cells : (j p : ℕ) → j < m → p < G.height j * 32 → G.cell j p ≡ G'.cell j p
    cells j p k u = cell_new j p (split g j (p / 32) k (omega arith)) k
