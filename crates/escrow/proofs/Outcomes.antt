-- Part outcomes on logs whose blocks come after what they cut: each is the judgement of its part in its view (`outcome-is`), and they are the only such (`outcome-only`).
-- Assumes nothing.
use Prim.Native.Nat.{◌%◌, ◌*◌, ◌+◌, ◌/◌, ◌<◌, ◌≤◌, ℕ}
use borrow.Author.Tests.{eq-eqb, eqb-false, eqb-true, ne_eqb}
use lib.Dec.{eqb}
use mathlib.Core.Bool.{Bool}
use mathlib.Core.Logic.{◌≢◌, ◌⊎◌, inl, inr}
use mathlib.Core.Path.{◌≡◌, refl}
use native.Mathlib.Nat.{eq-or-lt_of_le}
use native.Mathlib.Omega.{arith}
use Rattle.escrow.proofs.AmountsViewOnly.{part_good_same}
use Rattle.escrow.proofs.Fixpoint.{fixpoint, unique}
use Rattle.escrow.specs.Outcome.{Citation, History, InLogs, citation, depth, judge, outcome, rows_of, view_of}
use Rattle.ordering.specs.Table.{Climbs}
use Rattle.sheets.specs.Parts.{has_part}
use Rattle.sheets.specs.Sheet.{Sheet, tx_count}
use Rattle.sums.proofs.TestLaws.{by-pick, pick-false, pick_true}
use Rattle.sums.specs.Sum.{sum_to}
use Rattle.sums.specs.Test.{given}

-- what acceptance ensures of the logs. arrival is some order in which each block comes after those of its view
pub record ProperLogs (S : Sheet) (H : History) : Type 0 where
  pub climbs : (j : ℕ) → j < S.m → Climbs (H.rank j) (H.height j)
  pub cut_in : (j n i : ℕ) → j < S.m → n < H.height j → i < S.m → i ≢ j → H.entry j n i ≤ H.height i
  pub cut_up : (j n n' i : ℕ) → j < S.m → n ≤ n' → n' < H.height j → i < S.m → i ≢ j → H.entry j n i ≤ H.entry j n' i
  pub once : (x j : ℕ) → x < tx_count S → j < S.m
      → sum_to (H.height j * 32) (λ p. given (eqb (H.cell j p) x) 1) ≤ given (has_part S x j) 1
  pub arrival : ℕ → ℕ → ℕ
  pub arrived : (j n : ℕ) → j < S.m → n < H.height j → arrival j n < sum_to S.m H.height
  pub after_own : (j n n' : ℕ) → j < S.m → n < n' → n' < H.height j → arrival j n < arrival j n'
  pub after-cut : (j n i n' : ℕ) → j < S.m → n < H.height j → i < S.m → i ≢ j → n' < H.entry j n i → arrival i n' < arrival j n

-- ---- outcomes are a fixpoint

pub view_of_own : (H : History) (j p : ℕ) → view_of H j p j ≡ p
unfolding view_of
view_of_own H j p = pick_true _ _ _ (eq-eqb j j refl)

pub view_of_other : (H : History) (j p i : ℕ) → i ≢ j → view_of H j p i ≡ H.entry j (p / 32) i * 32
unfolding view_of
view_of_other H j p i h = pick-false _ _ _ (ne_eqb i j h)

-- a judgement looks only at the outcomes in the citation's view: what a loop that judges a block's citations one after the other uses
pub judge_view : (S : Sheet) → 0 < S.m → (H : History) (o o' : Citation → Bool) (c : Citation)
    → ((j p : ℕ) → j < S.m → p < view_of H c.instance c.position j → o (citation j p) ≡ o' (citation j p)) → judge S H o c ≡ judge S H o' c
unfolding judge rows_of
judge_view S some H o o' c h =
    part_good_same S some (view_of H c.instance c.position) (view_of H c.instance c.position) (rows_of H o) (rows_of H o')
    (record { places = λ j l. refl; ranks = λ j n l u. refl; cells = λ j p l u. refl; goods = h }) c.instance _

module _ (S : Sheet) (H : History) (F : ProperLogs S H) where
  pub stamp : Citation → ℕ
  stamp c = F.arrival c.instance (c.position / 32) * 32 + c.position % 32

  pub view_inside : (j p i : ℕ) → j < S.m → p < H.height j * 32 → i < S.m → view_of H j p i ≤ H.height i * 32
  unfolding view_of
  view_inside j p i l u k =
      by-pick (λ (n : ℕ). n ≤ H.height i * 32) (eqb i j)
      (λ e. rw (eqb-true i j e) (omega arith))
      (λ e. omega (arith, F.cut_in j (p / 32) i l (omega arith) k (eqb-false i j e)))

  -- what a view holds came before
  before : (j p i p' : ℕ) → j < S.m → p < H.height j * 32 → i < S.m → p' < view_of H j p i
      → stamp (citation i p') < stamp (citation j p)
  unfolding view_of stamp
  before j p i p' l u k =
      by-pick (λ (n : ℕ). p' < n → F.arrival i (p' / 32) * 32 + p' % 32 < F.arrival j (p / 32) * 32 + p % 32) (eqb i j)
      (λ e h. rw (eqb-true i j e) (own h (eq-or-lt_of_le (let q : p' / 32 ≤ p / 32 = omega arith in q))))
      (λ e h. omega (arith, F.after-cut j (p / 32) i (p' / 32) l (omega arith) k (eqb-false i j e) (omega arith)))
    where
      own : p' < p → ((p' / 32 ≡ p / 32) ⊎ (p' / 32 < p / 32)) → F.arrival j (p' / 32) * 32 + p' % 32 < F.arrival j (p / 32) * 32 + p % 32
      own h (inl q) = rw q (omega arith)
      own h (inr q) = omega (arith, F.after_own j (p' / 32) (p / 32) l q (omega arith))

  module _ (some : 0 < S.m) where
    pub judge-local : (o o' : Citation → Bool) (c : Citation) → InLogs S H c → ((x : Citation) → InLogs S H x → stamp x < stamp c → o x ≡ o' x) → judge S H o c ≡ judge S H o' c
    judge-local o o' c w h =
        judge_view S some H o o' c (λ j p l u. h (citation j p) (l, omega (arith, view_inside c.instance c.position j w.0 w.1 l)) (before c.instance c.position j p w.0 w.1 l u))

    stamp-depth : (c : Citation) → InLogs S H c → stamp c ≤ depth S H
    unfolding stamp depth
    stamp-depth c w = omega (arith, F.arrived c.instance (c.position / 32) w.0 (omega arith))

    -- the outcome of each citation is the judgement of its part in its view
    pub outcome-is : (c : Citation) → InLogs S H c → outcome S H c ≡ judge S H (outcome S H) c
    unfolding outcome
    outcome-is c w = fixpoint (judge S H) (InLogs S H) stamp judge-local (depth S H) c w (stamp-depth c w)

    -- and nothing else is: outcomes that a ledger kept as it judged them are these
    pub outcome-only : (o : Citation → Bool) → ((c : Citation) → InLogs S H c → o c ≡ judge S H o c) → (c : Citation) → InLogs S H c → o c ≡ outcome S H c
    outcome-only o h = unique (judge S H) (InLogs S H) stamp judge-local o (outcome S H) h outcome-is
