-- An offer leaves every buffer as long as it was.
-- Assumes nothing.
use Prim.Native.Nat.{suc, zero, ℕ}
use lib.ListN.{length, length-set}
use mathlib.Core.Path.{◌∙◌, ◌≡◌, refl}
use Rattle.plain.specs.Answer.{Answer, is_accepted}
use Rattle.plain.specs.Logs.{Values}
use Rattle.sheets.specs.Sheet.{Sheet}
use Rattle.state.specs.Cells.{Cells, cells_offered, judged_in, stored_in, taken_in}
use Rattle.sums.proofs.SeqLaws.{length-written}
use Rattle.sums.proofs.TestLaws.{by-pick}
use Rattle.sums.specs.Fold.{fold_to}

pub record SameLengths (C D : Cells) : Type 0 where
  pub heights : length D.heights ≡ length C.heights
  pub ranks : length D.ranks ≡ length C.ranks
  pub cuts : length D.cuts ≡ length C.cuts
  pub cites : length D.cites ≡ length C.cites
  pub good : length D.good ≡ length C.good

same_lengths : (C : Cells) → SameLengths C C
same_lengths C = record { heights = refl; ranks = refl; cuts = refl; cites = refl; good = refl }

judged_lengths : (S : Sheet) (i : ℕ) (p : ℕ → ℕ) (C D : Cells) (n : ℕ) → SameLengths C D → SameLengths C (fold_to n (λ q. judged_in S i (p q)) D)
unfolding fold_to judged_in
judged_lengths S i p C D zero s = s
judged_lengths S i p C D (suc n) s =
    let t = judged_lengths S i p C D n s in
    record { heights = t.heights; ranks = t.ranks; cuts = t.cuts; cites = t.cites; good = length-set (fold_to n (λ q. judged_in S i (p q)) D).good _ _ ∙ t.good }

pub offered_lengths : (S : Sheet) (a : Answer) (b : Values) (C : Cells) → SameLengths C (cells_offered S a b C)
unfolding cells_offered taken_in stored_in
offered_lengths S a b C =
    by-pick (SameLengths C) (is_accepted a)
    (λ e. judged_lengths S b.instance _ C (stored_in b C) 32 (record {
      heights = length-set C.heights _ _;
      ranks = length-set C.ranks _ _;
      cuts = length-written C.cuts _ 16 _;
      cites = length-written C.cites _ 32 _;
      good = refl;
    }))
    (λ e. same_lengths C)
