-- Amounts and the judgement of a part depend only on what the view holds (`free_same`, `held_same`, `part_good_same`); the share on the statuses (`share_same`).
-- Assumes nothing.
use Prim.Native.Nat.{◌+◌, ◌-◌, ◌<◌, ℕ}
use lib.Dec.{eqb, leb}
use mathlib.Core.Bool.{Bool, true}
use mathlib.Core.Path.{◌∙◌, ◌≡◌, ap, ap₂}
use Rattle.escrow.specs.Amounts.{covered_by, credited, debit_at, free, free_by, held, held_by, is_paid, is_pending, not_returned, part_good, reserved}
use Rattle.escrow.specs.Share.{share_of, thousandths}
use Rattle.transactions.specs.Content.{entry_of}
use Rattle.settlement.proofs.ViewOnly.{Same, status_same}
use Rattle.settlement.specs.Books.{Status}
use Rattle.settlement.specs.Settlement.{status}
use Rattle.settlement.specs.View.{Rows, View}
use Rattle.sheets.proofs.HomeLaws.{home_lt}
use Rattle.sheets.specs.Parts.{amount_on, home}
use Rattle.sheets.specs.Sheet.{Sheet, balance, tx_at, tx_count}
use Rattle.sums.proofs.SumLaws.{sum_ext}
use Rattle.sums.proofs.TestLaws.{all_to_ext}
use Rattle.sums.specs.Sum.{sum_to}
use Rattle.sums.specs.Test.{flip, given, pick}

module _ (S : Sheet) (some : 0 < S.m) (v v' : View) (R R' : Rows) (same : Same S.m v v' R R') where
  -- a sum over the account's row, weighed by the status
  pub row_same : (w : Status → Bool) (k : ℕ)
      → sum_to (v (home S k)) (debit_at S R (λ x. w (status S R v x)) k) ≡ sum_to (v' (home S k)) (debit_at S R' (λ x. w (status S R' v' x)) k)
  unfolding debit_at
  row_same w k =
      sum_ext (v (home S k)) _ _ (λ p l.
      ap₂ (λ (g : Bool) (d : ℕ). given g d) (same.goods (home S k) p (home_lt S some k) l)
      (ap (λ (x : ℕ). given (w (status S R v x)) (amount_on (tx_at S x).debits k)) (same.cells (home S k) p (home_lt S some k) l)
      ∙ ap (λ (s : Status). given (w s) (amount_on (tx_at S (R'.cell (home S k) p)).debits k)) (status_same S some v v' R R' same (R'.cell (home S k) p))))
      ∙ ap (λ (n : ℕ). sum_to n (debit_at S R' (λ x. w (status S R' v' x)) k)) (same.places (home S k) (home_lt S some k))

  pub free_same : (k : ℕ) → free S R v k ≡ free S R' v' k
  unfolding free free_by credited reserved
  free_same k =
      ap₂ (λ (c r : ℕ). balance S k + c - r)
      (sum_ext (tx_count S) _ _ (λ x l. ap (λ (s : Status). given (is_paid s) (amount_on (tx_at S x).credits k)) (status_same S some v v' R R' same x)))
      (row_same not_returned k)

  pub held_same : (k : ℕ) → held S R v k ≡ held S R' v' k
  unfolding held held_by
  held_same k = row_same is_pending k

  pub part_good_same : (j x : ℕ) → part_good S R v j x ≡ part_good S R' v' j x
  unfolding part_good covered_by
  part_good_same j x = all_to_ext _ _ _ (λ i l. ap (λ (f : ℕ). pick (eqb (home S (entry_of (tx_at S x).debits i).account) j) (leb (entry_of (tx_at S x).debits i).amount f)
      true) (free_same (entry_of (tx_at S x).debits i).account))

-- ---- the share depends on the settlements alone

pub share_same : (t : ℕ) (st st' : ℕ → Status) → ((x : ℕ) → st x ≡ st' x) → share_of t st ≡ share_of t st'
unfolding share_of
share_same t st st' h = ap (λ (n : ℕ). thousandths n t) (sum_ext t _ _ (λ x l. ap (λ (s : Status). flip (is_pending s)) (h x)))
