-- The invariant of the ledger's logs, and that a taken block keeps it.
-- Assumes nothing.
use Prim.Native.Nat.{◌%◌, ◌*◌, ◌+◌, ◌-◌, ◌/◌, ◌<◌, ◌≤◌, ℕ}
use borrow.Author.Tests.{eq-eqb, eqb-true, lt-ltb, ne_eqb}
use lib.Dec.{eqb}
use lib.ListN.{get_or-eq_default, get_or, length}
use mathlib.Core.Bool.{true}
use mathlib.Core.Logic.{◌≢◌, ◌⊎◌, inl, inr}
use mathlib.Core.Path.{◌∙◌, ◌≡◌, ap, ap₂, refl, sym}
use native.Mathlib.Decide.{dec_lt, ℕ_discrete}
use native.Mathlib.Nat.{add-zero, eq-or-lt_of_le}
use native.Mathlib.Omega.{arith}
use Rattle.escrow.proofs.Growth.{Extends}
use Rattle.escrow.proofs.Outcomes.{ProperLogs}
use Rattle.escrow.specs.Outcome.{History}
use Rattle.plain.proofs.Admits.{Admits}
use Rattle.plain.specs.Plain.{last_entry, last_rank}
use Rattle.ordering.proofs.Laws.{last_ext, last_some}
use Rattle.ordering.proofs.Usable.{usable-all}
use Rattle.ordering.specs.Order.{last_of}
use Rattle.ordering.specs.Table.{Climbs, usable}
use Rattle.sums.proofs.SumLaws.{sum_add, sum_ext}
use Rattle.sums.proofs.TestLaws.{by-pick, given_false, given_true, pick-false, pick_true, sum_one, sum_only}
use Rattle.sums.specs.Sum.{sum_to}
use Rattle.sums.specs.Test.{given, pick}
use Rattle.plain.proofs.Engine.{Grown}
use Rattle.plain.proofs.GrownLaws.{Which, new_cell, new_entry, new_rank, split}
use Rattle.plain.specs.Logs.{Values}
use Rattle.sheets.specs.Parts.{has_part}
use Rattle.sheets.specs.Sheet.{tx_count, Sheet}
use Rattle.settlement.specs.View.{no_cite}

pub record Kept (S : Sheet) (H : History) : Type 0 where
  pub short : (j : ℕ) → j < S.m → H.height j ≤ 128
  pub climbs : (j : ℕ) → j < S.m → Climbs (H.rank j) (H.height j)
  pub cut_in : (j n e : ℕ) → j < S.m → n < H.height j → e < S.m → H.entry j n e ≤ H.height e
  pub cut_up : (j n n' e : ℕ) → j < S.m → n ≤ n' → n' < H.height j → e < S.m → H.entry j n e ≤ H.entry j n' e
  pub owned : (j p : ℕ) → j < S.m → p < H.height j * 32 → H.cell j p < tx_count S → has_part S (H.cell j p) j ≡ true
  pub apart : (j p p' : ℕ) → j < S.m → p < p' → p' < H.height j * 32 → H.cell j p < tx_count S → H.cell j p ≢ H.cell j p'
  -- an order of arrival in which each block comes after those of its view
  pub arrival : ℕ → ℕ → ℕ
  pub arrived : (j n : ℕ) → j < S.m → n < H.height j → arrival j n < sum_to S.m H.height
  pub after_own : (j n n' : ℕ) → j < S.m → n < n' → n' < H.height j → arrival j n < arrival j n'
  pub after-cut : (j n e n' : ℕ) → j < S.m → n < H.height j → e < S.m → e ≢ j → n' < H.entry j n e → arrival e n' < arrival j n

pub proper : (S : Sheet) (H : History) → Kept S H → ProperLogs S H
proper S H K = record {
  climbs = K.climbs;
  cut_in = λ j n e l u k h. K.cut_in j n e l u k;
  cut_up = λ j n n' e l u w k h. K.cut_up j n n' e l u w k;
  once = λ x j t l. sum_one (H.height j * 32) (λ p. eqb (H.cell j p) x) (λ p. 1) (given (has_part S x j) 1)
      (λ p p' u u' e e'. K.apart j p p' l u u' (omega (arith, eqb-true (H.cell j p) x e)) (eqb-true _ x e ∙ sym (eqb-true _ x e')))
      (λ p u e.
      let q : H.cell j p ≡ x = eqb-true (H.cell j p) x e in
      let w : has_part S x j ≡ true = ap (λ (y : ℕ). has_part S y j) (sym q) ∙ K.owned j p l u (omega arith) in
      omega (arith, given_true (has_part S x j) 1 w));
  arrival = K.arrival;
  arrived = K.arrived;
  after_own = K.after_own;
  after-cut = K.after-cut;
}

pub kept_fresh : (S : Sheet) (H : History) → ((j : ℕ) → j < S.m → H.height j ≡ 0) → Kept S H
kept_fresh S H z = record {
  short = λ j l. omega (arith, z j l);
  climbs = λ j l n u. absurd (omega (arith, z j l));
  cut_in = λ j n e l u k. absurd (omega (arith, z j l));
  cut_up = λ j n n' e l u w k. absurd (omega (arith, z j l));
  owned = λ j p l u. absurd (omega (arith, z j l));
  apart = λ j p p' l u w. absurd (omega (arith, z j l));
  arrival = λ j n. 0;
  arrived = λ j n l u. absurd (omega (arith, z j l));
  after_own = λ j n n' l u w. absurd (omega (arith, z j l));
  after-cut = λ j n e n' l u k d w. absurd (omega (arith, z j l));
}

-- on such logs all heights are usable
pub usable-heights : (S : Sheet) (H : History) → Kept S H → (j : ℕ) → j < S.m → usable H.rank H.height j ≡ H.height j
usable-heights S H K j l = usable-all H.rank H.height j (K.short j l) (K.climbs j l)

module _ (S : Sheet) (few : tx_count S ≤ 1024) (H H' : History) (b : Values) (K : Kept S H) (A : Admits S H b) (G : Grown S.m b H H') where
  up : (j : ℕ) → j < S.m → H.height j ≤ H'.height j
  up j l = elim (ℕ_discrete j b.instance) [ yes q ↦ rw q (omega (arith, G.more)) | no h ↦ omega (arith, G.others j l h) ]

  last-entry : (n e : ℕ) → n < H.height b.instance → e < S.m → H.entry b.instance n e ≤ last_entry H b.instance e
  unfolding last_entry
  last-entry n e l k =
      omega (
        arith,
        last_some (λ n. H.entry b.instance n e) (H.height b.instance) (omega arith),
        K.cut_up b.instance n (H.height b.instance - 1) e A.there (omega arith) (omega arith) k,
      )

  -- a citation that names a transaction stands below the count
  cite_there : (q : ℕ) → get_or b.cites q no_cite < tx_count S → q < length b.cites
  cite_there q l = elim (dec_lt q (length b.cites)) [ yes u ↦ u | no u ↦ absurd (omega (arith, get_or-eq_default b.cites no_cite {n = q} (omega arith))) ]

  new_short : (j : ℕ) → j < S.m → H'.height j ≤ 128
  new_short j l = elim (ℕ_discrete j b.instance) [ yes q ↦ omega (arith, ap H'.height q, G.more, A.room) | no h ↦ omega (arith, G.others j l h, K.short j l) ]

  new_climbs : (j : ℕ) → j < S.m → Climbs (H'.rank j) (H'.height j)
  unfolding last_rank
  new_climbs j l n u = go (split G j n l u)
    where
      old : n ≤ H.height j → last_of (H'.rank j) n ≡ last_of (H.rank j) n
      old h = last_ext (H'.rank j) (H.rank j) n (λ k v. G.old_rank j k l (omega arith))

      go : Which b H j n → last_of (H'.rank j) n < H'.rank j n
      go (inl h) = omega (arith, old (omega arith), K.climbs j l n h, G.old_rank j n l h)
      go (inr h) =
          omega (arith, old (omega (arith, ap H.height h.0, h.1)), ap₂ (λ (i k : ℕ). last_of (H.rank i) k) h.0 h.1, A.above, new_rank G h.0 h.1)

  new_cut_in : (j n e : ℕ) → j < S.m → n < H'.height j → e < S.m → H'.entry j n e ≤ H'.height e
  new_cut_in j n e l u k = go (split G j n l u)
    where
      go : Which b H j n → H'.entry j n e ≤ H'.height e
      go (inl h) = omega (arith, K.cut_in j n e l h k, G.old_entry j n e l h k, up e k)
      go (inr h) = omega (arith, A.cut_in e k, new_entry G e k h.0 h.1, up e k)

  new_cut_up : (j n n' e : ℕ) → j < S.m → n ≤ n' → n' < H'.height j → e < S.m → H'.entry j n e ≤ H'.entry j n' e
  new_cut_up j n n' e l u w k = go (split G j n' l w) (eq-or-lt_of_le u)
    where
      go : Which b H j n' → ((n ≡ n') ⊎ (n < n')) → H'.entry j n e ≤ H'.entry j n' e
      go (inl h) s = omega (arith, K.cut_up j n n' e l u h k, G.old_entry j n e l (omega arith) k, G.old_entry j n' e l h k)
      go (inr h) (inl s) = rw s (omega arith)
      go (inr h) (inr s) =
          let q : H.height j ≡ H.height b.instance = ap H.height h.0 in
          omega (
            arith,
            last-entry n e (omega arith) k,
            A.cut_up e k,
            G.old_entry j n e l (omega arith) k,
            new_entry G e k h.0 h.1,
            ap (λ (i : ℕ). H.entry i n e) h.0,
          )

  new_owned : (j p : ℕ) → j < S.m → p < H'.height j * 32 → H'.cell j p < tx_count S → has_part S (H'.cell j p) j ≡ true
  new_owned j p l u = go (split G j (p / 32) l (omega arith))
    where
      go : Which b H j (p / 32) → H'.cell j p < tx_count S → has_part S (H'.cell j p) j ≡ true
      go (inl h) t =
          let c : H'.cell j p ≡ H.cell j p = G.old_cell j p l (omega arith) in
          ap (λ (x : ℕ). has_part S x j) c ∙ K.owned j p l (omega arith) (omega arith)
      go (inr h) t =
          let c : H'.cell j p ≡ get_or b.cites (p % 32) no_cite = new_cell G p h.0 h.1 in
          ap₂ (λ (x i : ℕ). has_part S x i) c h.0 ∙ A.part (p % 32) (cite_there (p % 32) (omega arith))

  new_apart : (j p p' : ℕ) → j < S.m → p < p' → p' < H'.height j * 32 → H'.cell j p < tx_count S → H'.cell j p ≢ H'.cell j p'
  new_apart j p p' l u w t = go (split G j (p' / 32) l (omega arith))
    where
      go : Which b H j (p' / 32) → H'.cell j p ≢ H'.cell j p'
      go (inl h) z =
          let a : H'.cell j p ≡ H.cell j p = G.old_cell j p l (omega arith) in
          let c : H'.cell j p' ≡ H.cell j p' = G.old_cell j p' l (omega arith) in
          K.apart j p p' l u (omega arith) (omega arith) (sym a ∙ z ∙ c)
      go (inr h) z =
          let c : H'.cell j p' ≡ get_or b.cites (p' % 32) no_cite = new_cell G p' h.0 h.1 in
          let f : p' % 32 < length b.cites = cite_there (p' % 32) (omega (arith, z, c)) in
          let q : H.height j ≡ H.height b.instance = ap H.height h.0 in
          elim (dec_lt (p / 32) (H.height j)) [
            | yes y ↦ A.fresh (p' % 32) p f (omega arith) (sym (ap (λ (i : ℕ). H.cell i p) h.0) ∙ sym (G.old_cell j p l (omega arith)) ∙ z ∙ c)
            | no y ↦ A.apart (p' % 32) (p % 32) f (omega arith) (sym (new_cell G p h.0 (omega arith)) ∙ z ∙ c)
          ]

  -- the new block comes last
  N : ℕ
  N = sum_to S.m H.height

  new_arrival : ℕ → ℕ → ℕ
  new_arrival j n = pick (eqb j b.instance) (pick (eqb n (H.height b.instance)) N (K.arrival j n)) (K.arrival j n)

  arrival_old : (j n : ℕ) → n < H.height j → new_arrival j n ≡ K.arrival j n
  unfolding new_arrival
  arrival_old j n l =
      by-pick (λ (z : ℕ). z ≡ K.arrival j n) (eqb j b.instance)
      (λ e. pick-false _ _ _ (ne_eqb n (H.height b.instance) (λ q. let c : H.height j ≡ H.height b.instance = ap H.height (eqb-true j b.instance e) in omega arith)))
      (λ e. refl)

  arrival_new : (j n : ℕ) → j ≡ b.instance → n ≡ H.height b.instance → new_arrival j n ≡ N
  unfolding new_arrival
  arrival_new j n e e' = pick_true _ _ _ (eq-eqb _ _ e) ∙ pick_true _ _ _ (eq-eqb _ _ e')

  -- one block more in all
  total_more : sum_to S.m H'.height ≡ N + 1
  unfolding N
  total_more =
      sum_ext S.m _ _ (λ j l. each j l) ∙ sum_add S.m H.height (λ j. given (eqb b.instance j) 1)
      ∙ ap (λ (z : ℕ). N + z) (sum_only S.m (λ j. 1) b.instance ∙ given_true _ 1 (lt-ltb _ _ A.there))
    where
      each : (j : ℕ) → j < S.m → H'.height j ≡ H.height j + given (eqb b.instance j) 1
      each j l = elim (ℕ_discrete j b.instance) [
        | yes q ↦ rw q (G.more ∙ ap (λ (z : ℕ). H.height b.instance + z) (sym (given_true _ 1 (eq-eqb b.instance b.instance refl))))
        | no q ↦ G.others j l q ∙ sym (ap (λ (z : ℕ). H.height j + z) (given_false _ 1 (ne_eqb b.instance j (λ z. q (sym z)))) ∙ add-zero _)
      ]

  new_arrived : (j n : ℕ) → j < S.m → n < H'.height j → new_arrival j n < sum_to S.m H'.height
  unfolding N
  new_arrived j n l u = go (split G j n l u)
    where
      go : Which b H j n → new_arrival j n < sum_to S.m H'.height
      go (inl h) = omega (arith, arrival_old j n h, K.arrived j n l h, total_more)
      go (inr h) = omega (arith, arrival_new j n h.0 h.1, total_more)

  new_after_own : (j n n' : ℕ) → j < S.m → n < n' → n' < H'.height j → new_arrival j n < new_arrival j n'
  unfolding N
  new_after_own j n n' l u w = go (split G j n' l w)
    where
      go : Which b H j n' → new_arrival j n < new_arrival j n'
      go (inl h) = omega (arith, arrival_old j n (omega arith), arrival_old j n' h, K.after_own j n n' l u h)
      go (inr h) =
          let q : H.height j ≡ H.height b.instance = ap H.height h.0 in
          omega (arith, arrival_old j n (omega arith), K.arrived j n l (omega arith), arrival_new j n' h.0 h.1)

  new_after-cut : (j n e n' : ℕ) → j < S.m → n < H'.height j → e < S.m → e ≢ j → n' < H'.entry j n e → new_arrival e n' < new_arrival j n
  unfolding N
  new_after-cut j n e n' l u k d w = go (split G j n l u)
    where
      go : Which b H j n → new_arrival e n' < new_arrival j n
      go (inl h) =
          let c : H'.entry j n e ≡ H.entry j n e = G.old_entry j n e l h k in
          omega (arith, arrival_old j n h, arrival_old e n' (omega (arith, K.cut_in j n e l h k)), K.after-cut j n e n' l h k d (omega arith))
      go (inr h) =
          let c : H'.entry j n e ≡ get_or b.cut e 0 = new_entry G e k h.0 h.1 in
          let y : n' < H.height e = omega (arith, A.cut_in e k) in
          omega (arith, arrival_old e n' y, K.arrived e n' k y, arrival_new j n h.0 h.1)

  pub kept_more : Kept S H'
  kept_more = record {
    short = new_short;
    climbs = new_climbs;
    cut_in = new_cut_in;
    cut_up = new_cut_up;
    owned = new_owned;
    apart = new_apart;
    arrival = new_arrival;
    arrived = new_arrived;
    after_own = new_after_own;
    after-cut = new_after-cut;
  }

  pub grown_extends : Extends S H H'
  grown_extends = record {
    longer = up;
    ranks = λ j n l u. sym (G.old_rank j n l u);
    entries = λ j n e l u k. sym (G.old_entry j n e l u k);
    cells = λ j p l u. sym (G.old_cell j p l u);
  }
