-- What is read depends only on what the view holds.
-- Assumes nothing.
use Prim.Native.Nat.{◌*◌, ◌<◌, ℕ}
use mathlib.Core.List.{List}
use mathlib.Core.Path.{◌≡◌, ap}
use native.Mathlib.Omega.{arith}
use Rattle.escrow.specs.Outcome.{Citation, History, InLogs, citation, full_view, outcome, rows_of}
use Rattle.escrow.specs.Report.{rows_all}
use Rattle.ordering.specs.Order.{Ref}
use Rattle.plain.proofs.Engine.{Alike, Engine, report_from, rows_by, whole_view}
use Rattle.plain.specs.Report.{Report, report_by}
use Rattle.sums.proofs.SeqLaws.{tabulate_ext}
use Rattle.sheets.specs.Sheet.{tx_count, Sheet}
use Rattle.settlement.proofs.ViewOnly.{Same, contracts_same, status_same, view_log_same}
use Rattle.escrow.proofs.AmountsViewOnly.{free_same, held_same, share_same}
use Rattle.settlement.specs.Books.{Book, Status}
use Rattle.settlement.specs.View.{Rows, View}

-- a report by its parts
made : (l : List Ref) (s : List Status) (f h r : List ℕ) (n : ℕ) → Report
made l s f h r n = record { log = l; settlements = s; free = f; held = h; registers = r; share = n }

made_same : {l l' : List Ref} {s s' : List Status} {f f' h h' r r' : List ℕ} {n n' : ℕ} → l ≡ l' → s ≡ s' → f ≡ f' → h ≡ h' → r ≡ r' → n ≡ n'
    → made l s f h r n ≡ made l' s' f' h' r' n'
made_same a b c d e g = cc

pub report_same : (S : Sheet) → 0 < S.m → (v v' : View) (R R' : Rows) → Same S.m v v' R R' → report_by S R v ≡ report_by S R' v'
unfolding report_by made
report_same S some v v' R R' same =
    made_same (view_log_same S some v v' R R' same)
    (tabulate_ext (tx_count S) _ _ (λ x l. status_same S some v v' R R' same x))
    (tabulate_ext S.a _ _ (λ k l. free_same S some v v' R R' same k))
    (tabulate_ext S.a _ _ (λ k l. held_same S some v v' R R' same k))
    (ap (λ (b : Book). b.registers) (contracts_same S some v v' R R' same))
    (share_same (tx_count S) _ _ (λ x. status_same S some v v' R R' same x))

-- an engine whose logs are alike H and whose flags are H's outcomes reads what the rules say of H
pub reads_right : (S : Sheet) → 0 < S.m → (s : Engine) (H : History) → Alike S.m s.past H
    → ((c : Citation) → InLogs S s.past c → s.flag c ≡ outcome S H c) → report_from S s ≡ report_by S (rows_all S H) (full_view H)
unfolding report_from full_view rows_all rows_of
reads_right S some s H a right =
    report_same S some (whole_view s) (full_view H) (rows_by s) (rows_all S H) (record {
      places = λ j l. ap (λ (n : ℕ). n * 32) (a.heights j l);
      ranks = λ j n l u. a.ranks j n l (omega arith);
      cells = λ j p l u. a.cells j p l u;
      goods = λ j p l u. right (citation j p) (l, u);
    })
