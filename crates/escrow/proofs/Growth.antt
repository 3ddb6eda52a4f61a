-- Logs that grow: outcomes stay (`outcome_grown`), the global log is a beginning (`log_grown`), and what is settled is settled alike (`status_grown`).
-- Assumes nothing.
use Prim.Native.Nat.{◌*◌, ◌/◌, ◌<◌, ◌≤◌, ℕ}
use lib.Dec.{eqb}
use mathlib.Core.Bool.{Bool}
use mathlib.Core.Logic.{◌≢◌}
use mathlib.Core.Path.{◌∙◌, ◌≡◌, ap, refl, sym}
use native.Mathlib.Decide.{dec_lt}
use native.Mathlib.Omega.{arith}
use Rattle.escrow.proofs.FullView.{log_all}
use Rattle.escrow.proofs.AmountsViewOnly.{part_good_same}
use Rattle.escrow.proofs.Outcomes.{ProperLogs, judge-local, outcome-is, outcome-only, view_inside}
use Rattle.escrow.specs.Amounts.{part_good}
use Rattle.escrow.specs.Outcome.{Citation, History, InLogs, citation, full_view, judge, outcome, rows_of, view_of}
use Rattle.escrow.specs.Report.{rows_all, status_all}
use Rattle.ordering.specs.Table.{Climbs}
use Rattle.settlement.proofs.StatusLaws.{Once, status_keeps, view_log-begins}
use Rattle.settlement.proofs.ViewOnly.{Same, status_same, view_log_same}
use Rattle.settlement.specs.Books.{pending}
use Rattle.settlement.specs.Settlement.{is_cite}
use Rattle.settlement.specs.View.{View, event_at}
use Rattle.sheets.specs.Sheet.{Sheet}
use Rattle.sums.specs.Seq.{Begins}
use Rattle.sums.specs.Test.{pick}

-- each instance's log is a beginning of the other's
pub record Extends (S : Sheet) (H H' : History) : Type 0 where
  pub longer : (j : ℕ) → j < S.m → H.height j ≤ H'.height j
  pub ranks : (j n : ℕ) → j < S.m → n < H.height j → H.rank j n ≡ H'.rank j n
  pub entries : (j n i : ℕ) → j < S.m → n < H.height j → i < S.m → H.entry j n i ≡ H'.entry j n i
  pub cells : (j p : ℕ) → j < S.m → p < H.height j * 32 → H.cell j p ≡ H'.cell j p

module _ (S : Sheet) (some : 0 < S.m) (H H' : History) (F : ProperLogs S H) (F' : ProperLogs S H') (E : Extends S H H') where
  there_grown : (c : Citation) → InLogs S H c → InLogs S H' c
  there_grown c w = (w.0, omega (arith, w.1, E.longer c.instance w.0))

  view_grown : (j p i : ℕ) → j < S.m → p < H.height j * 32 → i < S.m → view_of H j p i ≡ view_of H' j p i
  unfolding view_of
  view_grown j p i l u k = ap (λ (n : ℕ). pick (eqb i j) p (n * 32)) (E.entries j (p / 32) i l (omega arith) k)

  -- the rows of the shorter logs are those of the longer, in any view of the shorter
  rows_grown : (o o' : Citation → Bool) (v v' : View) → ((j : ℕ) → j < S.m → v j ≤ H.height j * 32) → ((j : ℕ) → j < S.m → v j ≡ v' j)
      → ((c : Citation) → InLogs S H c → o c ≡ o' c) → Same S.m v v' (rows_of H o) (rows_of H' o')
  unfolding rows_of
  rows_grown o o' v v' h e q = record {
    places = e;
    ranks = λ j n l u. E.ranks j n l (omega (arith, h j l));
    cells = λ j p l u. E.cells j p l (omega (arith, h j l));
    goods = λ j p l u. q (citation j p) (l, omega (arith, h j l));
  }

  judge_grown : (o : Citation → Bool) (c : Citation) → InLogs S H c → judge S H o c ≡ judge S H' o c
  unfolding judge
  judge_grown o c w =
      part_good_same S some (view_of H c.instance c.position) (view_of H' c.instance c.position) (rows_of H o) (rows_of H' o)
      (rows_grown o o _ _ (λ j l. view_inside S H F c.instance c.position j w.0 w.1 l)
      (λ j l. view_grown c.instance c.position j w.0 w.1 l) (λ x y. refl)) c.instance _
      ∙ ap (part_good S (rows_of H' o) (view_of H' c.instance c.position) c.instance) (E.cells c.instance c.position w.0 w.1)

  pub outcome_grown : (c : Citation) → InLogs S H c → outcome S H' c ≡ outcome S H c
  outcome_grown = outcome-only S H F some (outcome S H')
      (λ c w. outcome-is S H' F' some c (there_grown c w) ∙ sym (judge_grown (outcome S H') c w))

  -- flags that were right stay right as the logs grow, if each new one is as its view judges
  pub flags_grown : (o : Citation → Bool) → ((c : Citation) → InLogs S H c → o c ≡ outcome S H c)
      → ((c : Citation) → InLogs S H' c → H.height c.instance * 32 ≤ c.position → o c ≡ judge S H' o c)
      → (c : Citation) → InLogs S H' c → o c ≡ outcome S H' c
  flags_grown o old new = outcome-only S H' F' some o (λ c w. go c w (dec_lt c.position (H.height c.instance * 32)))
    where
      go : (c : Citation) → InLogs S H' c → Dec (c.position < H.height c.instance * 32) → o c ≡ judge S H' o c
      go c w (yes u) =
          old c (w.0, u) ∙ outcome-is S H F some c (w.0, u)
          ∙ judge-local S H F some (outcome S H) o c (w.0, u) (λ x y l. sym (old x y)) ∙ judge_grown o c (w.0, u)
      go c w (no u) = new c w (omega arith)

  -- the readings in the shorter logs, taken from the longer logs' rows
  full_same : Same S.m (full_view H) (full_view H) (rows_all S H) (rows_all S H')
  unfolding full_view rows_all
  full_same = rows_grown (outcome S H) (outcome S H') (full_view H) (full_view H) (λ j l. omega arith) (λ j l. refl) (λ c w. sym (outcome_grown c w))

  full_grown : (j : ℕ) → j < S.m → full_view H j ≤ full_view H' j
  unfolding full_view
  full_grown j l = omega (arith, E.longer j l)

  pub full_climbs : (j : ℕ) → j < S.m → Climbs ((rows_all S H').rank j) (full_view H' j / 32)
  unfolding full_view rows_all rows_of
  full_climbs j l n u = F'.climbs j l n (omega arith)

  pub full_once : Once S (rows_all S H') (full_view H')
  unfolding full_view rows_all rows_of is_cite event_at
  full_once x j t l = F'.once x j t l

  -- the global log is a beginning
  pub log_grown : Begins (log_all S H) (log_all S H')
  unfolding log_all
  log_grown = rw (view_log_same S some (full_view H) (full_view H) (rows_all S H) (rows_all S H') full_same)
      (view_log-begins S some (rows_all S H') (full_view H) (full_view H') full_grown full_climbs full_once)

  -- what is settled is settled alike
  pub status_grown : (x : ℕ) → status_all S H x ≢ pending → status_all S H' x ≡ status_all S H x
  unfolding status_all
  status_grown x = rw (status_same S some (full_view H) (full_view H) (rows_all S H) (rows_all S H') full_same x)
      (status_keeps S some (rows_all S H') (full_view H) (full_view H') full_grown full_climbs full_once x)
