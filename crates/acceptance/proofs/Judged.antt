-- What the code's loop over a stored block's places leaves is what `taken_in` says.
-- Assumes nothing.
use Prim.Native.Nat.{◌*◌, ◌+◌, ◌/◌, ◌<◌, ◌≤◌, suc, zero, ℕ}
use lib.Dec.{eqb}
use lib.ListN.{get_or, set}
use mathlib.Core.Bool.{Bool}
use mathlib.Core.List.{List}
use mathlib.Core.Path.{◌∙◌, ◌≡◌, ap, refl}
use native.Mathlib.Omega.{arith}
use Rattle.escrow.specs.Cells.{cut_in, history_in}
use Rattle.escrow.specs.Outcome.{judge, rows_of, view_of}
use Rattle.state.specs.Cells.{Cells, judged_in, past_in}
use Rattle.acceptance.specs.Judging.{judged_good, view_by}
use Rattle.ordering.specs.Table.{count_in}
use Rattle.sums.specs.Fold.{fold_to}
use Rattle.sums.specs.Test.{bit, pick}
use Rattle.sheets.specs.Sheet.{Sheet}
use Rattle.escrow.proofs.AmountsViewOnly.{part_good_same}
use Rattle.settlement.specs.Cells.{cell_in, rows_in}

-- the cells with other outcomes
abbrev pub with_good : Cells → List ℕ → Cells
with_good D g = record { heights = D.heights; ranks = D.ranks; cuts = D.cuts; cites = D.cites; good = g }

module _ (S : Sheet) (some : 0 < S.m) (D : Cells) (cut : List ℕ) (i h : ℕ) (entries : (e : ℕ) → e < S.m → cut_in D.cuts i h e ≡ get_or cut e 0) where
  -- one place: the view is that of the stored block's cut
  judged-one : (g : List ℕ) (q : ℕ) → q < 32 → judged_in S i (h * 32 + q) (with_good D g) ≡ with_good D (judged_good S D.ranks D.cites cut i (h * 32 + q) g)
  unfolding judged_in judged_good judge past_in history_in rows_of rows_in view_of
  judged-one g q l =
      ap (λ (t : Bool). with_good D (set g (i * 4096 + (h * 32 + q)) (bit t)))
      (part_good_same S some (view_of (past_in (with_good D g)) i (h * 32 + q)) (view_by (count_in cut) i (h * 32 + q)) (rows_in D.ranks D.cites g) (rows_in D.ranks D.cites g)
      (record { places = λ j u. place j u; ranks = λ j n u w. refl; cells = λ j p u w. refl; goods = λ j p u w. refl }) i (cell_in D.cites i (h * 32 + q)))
    where
      place : (j : ℕ) → j < S.m → pick (eqb j i) (h * 32 + q) (cut_in D.cuts i ((h * 32 + q) / 32) j * 32) ≡ pick (eqb j i) (h * 32 + q) (get_or cut j 0 * 32)
      place j u =
          let k : (h * 32 + q) / 32 ≡ h = omega arith in
          ap (λ (n : ℕ). pick (eqb j i) (h * 32 + q) (n * 32)) (ap (λ (n : ℕ). cut_in D.cuts i n j) k ∙ entries j u)

  pub judged-all : (n : ℕ) → n ≤ 32 → fold_to n (λ q. judged_in S i (h * 32 + q)) D ≡ with_good D (fold_to n (λ q. judged_good S D.ranks D.cites cut i (h * 32 + q)) D.good)
  unfolding fold_to
  judged-all zero l = refl
  judged-all (suc n) l = ap (judged_in S i (h * 32 + n)) (judged-all n (omega arith)) ∙ judged-one (fold_to n (λ q. judged_good S D.ranks D.cites cut i (h * 32 + q)) D.good) n (omega arith)
