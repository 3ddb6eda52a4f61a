-- The kept buffers lent anew, elsewhere or of another length: as far as the sheet needs them they hold the same.
-- Assumes nothing.
use Prim.Native.Nat.{◌*◌, ◌+◌, ◌<◌, ◌≤◌, ℕ}
use lib.Dec.{eqb}
use mathlib.Core.Bool.{true}
use mathlib.Core.Path.{◌∙◌, ◌≡◌, ap, refl, subst, sym}
use native.Mathlib.Omega.{arith}
use Rattle.demand.proofs.Fronts.{front_at, sheet-front}
use Rattle.demand.proofs.Steps.{Beside}
use Rattle.demand.specs.Chain.{SameLedger}
use Rattle.escrow.proofs.Growth.{outcome_grown}
use Rattle.escrow.specs.Cells.{history_in}
use Rattle.escrow.specs.Outcome.{Citation, History, InLogs, outcome}
use Rattle.ordering.proofs.Usable.{usable_other}
use Rattle.ordering.specs.Table.{count_in, rank_in}
use Rattle.plain.proofs.Alike.{alike_extends}
use Rattle.plain.proofs.Engine.{Alike}
use Rattle.plain.proofs.Kept as plain
use Rattle.plain.proofs.Kept.{proper}
use Rattle.ordering.proofs.Laws.{last_ext}
use Rattle.plain.specs.Logs.{Logs}
use Rattle.sheets.proofs.ProperLaws.{ProperSheet}
use Rattle.sheets.proofs.SheetCells.{sheet-m}
use Rattle.sheets.specs.Sheet.{Sheet, sheet_in}
use Rattle.sheets.specs.Parts.{has_part}
use Rattle.state.proofs.Grows.{heights-most}
use Rattle.state.specs.Cells.{heights_in, outcomes_in, past_in}
use Rattle.state.specs.State.{Kept, cells_of, sizes_of}
use Rattle.state.specs.declared.ledger.Ledger.{Ledger}
use Rattle.sums.proofs.SumLaws.{sum_ext}

-- ---- the same logs

kept-alike : (S : Sheet) (H H' : History) → Alike S.m H H' → plain.Kept S H → plain.Kept S H'
kept-alike S H H' a k = record {
  short = λ j u. omega (arith, k.short j u, a.heights j u);
  climbs = λ j u n v.
      let w : n < H.height j = omega (arith, a.heights j u) in
      omega (arith, k.climbs j u n w, a.ranks j n u w, last_ext (H.rank j) (H'.rank j) n (λ i x. a.ranks j i u (omega arith)));
  cut_in = λ j n e u v w. let z : n < H.height j = omega (arith, a.heights j u) in omega (arith, k.cut_in j n e u z w, a.entries j n e u z w, a.heights e w);
  cut_up = λ j n n' e u v w x.
      let z : n' < H.height j = omega (arith, a.heights j u) in
      let y : n < H.height j = omega arith in
      omega (arith, k.cut_up j n n' e u v z x, a.entries j n e u y x, a.entries j n' e u z x);
  owned = λ j p u v w.
      let z : p < H.height j * 32 = omega (arith, a.heights j u) in
      let q = a.cells j p u z in
      subst (λ (x : ℕ). has_part S x j ≡ true) q (k.owned j p u z (omega (arith, q)));
  apart = λ j p p' u v w x y.
      let z : p' < H.height j * 32 = omega (arith, a.heights j u) in
      let z' : p < H.height j * 32 = omega arith in
      k.apart j p p' u v z (omega (arith, a.cells j p u z')) (a.cells j p u z' ∙ y ∙ sym (a.cells j p' u z));
  arrival = k.arrival;
  arrived = λ j n u v. let s = sum_ext S.m H.height H'.height a.heights in let w : n < H.height j = omega (arith, a.heights j u) in omega (arith, k.arrived j n u w, s);
  after_own = λ j n n' u v w. k.after_own j n n' u v (omega (arith, a.heights j u));
  after-cut = λ j n e n' u v w x y. let z : n < H.height j = omega (arith, a.heights j u) in k.after-cut j n e n' u z w x (omega (arith, a.entries j n e u z w));
}

module _ (l : Ledger) (K J : Kept) (f : SameLedger l K J) where
  tall : (j : ℕ) → j < l.loading.m → heights_in (cells_of l K) j ≡ heights_in (cells_of l J) j
  tall j u =
      usable_other (rank_in J.ranks) (rank_in K.ranks) (count_in l.heights) (count_in l.heights) j
      (λ n v. sym (front_at (128 * l.loading.m) J.ranks K.ranks (j * 128 + n) 0 f.ranks (omega arith))) refl

  alike : l.loading.m ≤ 16 → Alike l.loading.m (past_in (cells_of l K)) (past_in (cells_of l J))
  unfolding past_in history_in
  alike small = record {
    heights = tall;
    ranks = λ j n u v. let w = heights-most (cells_of l K) j in sym (front_at (128 * l.loading.m) J.ranks K.ranks (j * 128 + n) 0 f.ranks (omega (arith, w)));
    entries = λ j n e u v x. let w = heights-most (cells_of l K) j in sym (front_at (2048 * l.loading.m) J.cuts K.cuts ((j * 128 + n) * 16 + e) 0 f.cuts (omega (arith, w)));
    cells = λ j p u v. let w = heights-most (cells_of l K) j in sym (front_at (4096 * l.loading.m) J.cites K.cites (j * 4096 + p) _ f.cites (omega (arith, w)));
  }

  flags : (c : Citation) → c.instance < l.loading.m → c.position < 4096 → outcomes_in (cells_of l J) c ≡ outcomes_in (cells_of l K) c
  flags c u v = ap (λ (n : ℕ). eqb n 1) (front_at (4096 * l.loading.m) J.good K.good (c.instance * 4096 + c.position) 0 f.good (omega arith))

  module _ (S : Sheet) (Q : ProperSheet S) (L : Logs) (I : Beside S l K L) where
    width : S.m ≡ l.loading.m
    width = ap (λ (T : Sheet). T.m) I.sheet ∙ sheet-m K.sheet (sizes_of l)

    here : Alike S.m (past_in (cells_of l K)) (past_in (cells_of l J))
    here = rw width (alike (omega (arith, width, Q.small)))

    still : plain.Kept S (past_in (cells_of l J))
    still = kept-alike S (past_in (cells_of l K)) (past_in (cells_of l J)) here I.follows.kept

    owns : (c : Citation) → InLogs S (past_in (cells_of l J)) c → outcomes_in (cells_of l J) c ≡ outcome S (past_in (cells_of l J)) c
    owns c w =
        let h = here.heights c.instance w.0 in
        let y : c.position < (past_in (cells_of l K)).height c.instance * 32 = omega (arith, w.1, h) in
        let b = still.short c.instance w.0 in
        flags c (omega (arith, w.0, width)) (omega (arith, w.1, b)) ∙ I.follows.own c (w.0, y)
        ∙ sym (outcome_grown S Q.some (past_in (cells_of l K)) (past_in (cells_of l J)) (proper S _ I.follows.kept) (proper S _ still) (alike_extends S _ _ here) c (w.0, y))

    pub anew-beside : Beside S l J L
    anew-beside = record {
      whole = I.whole;
      sheet = I.sheet ∙ sym (unfold sheet_in in sheet-front l.loading.m l.loading.a l.loading.g l.loading.t l.loading.t K.sheet J.sheet (omega arith) f.sheet);
      sixteen = I.sixteen;
      follows = record {
        wide = I.follows.wide;
        kept = still;
        plain = I.follows.plain;
        alike = record {
          heights = λ j u. sym (here.heights j u) ∙ I.follows.alike.heights j u;
          ranks = λ j n u v. let w : n < (past_in (cells_of l K)).height j = omega (arith, here.heights j u) in sym (here.ranks j n u w) ∙ I.follows.alike.ranks j n u w;
          entries = λ j n e u v x. let w : n < (past_in (cells_of l K)).height j = omega (arith, here.heights j u) in sym (here.entries j n e u w x) ∙ I.follows.alike.entries j n e u w x;
          cells = λ j p u v. let w : p < (past_in (cells_of l K)).height j * 32 = omega (arith, here.heights j u) in sym (here.cells j p u w) ∙ I.follows.alike.cells j p u w;
        };
        own = owns;
      };
    }
