-- Demand 3: the theorem.
-- Assumes nothing.
use Prim.Native.Nat.{◌+◌, ◌<◌, ℕ}
use lib.ListN.{get_or, get_or-replicate, length, length-replicate}
use mathlib.Core.List.{List, foldl}
use mathlib.Core.Logic.{◌≢◌}
use mathlib.Core.Path.{◌∙◌, ◌≡◌, ap, ap₂, refl, subst, sym}
use native.Mathlib.Decide.{dec_lt}
use native.Mathlib.Omega.{arith}
use Rattle.demand.proofs.Anew.{anew-beside}
use Rattle.demand.proofs.Opened.{opened, sheet-proper, sheet_said}
use Rattle.demand.proofs.Steps.{Beside, offer-answer, offer-beside, outcomes_right, read_told, few_told, report_right, short-beside, short_told}
use Rattle.demand.specs.Chain.{Calls, Event, InUse, anew, few-load, few-read, loading, offer, reading, short, stop}
use Rattle.demand.specs.Claim.{Agree, Demand, Plainly, Read, logs_of, offers_in, settlement_in}
use Rattle.escrow.proofs.FullView.{free_all, held_all, log_all}
use Rattle.escrow.proofs.Growth.{log_grown, outcome_grown, status_grown}
use Rattle.escrow.proofs.Outcomes.{ProperLogs, outcome-is, outcome-only}
use Rattle.escrow.proofs.Totals.{adds_up, covers}
use Rattle.escrow.specs.Outcome.{Citation, InLogs, outcome}
use Rattle.escrow.specs.Report.{status_all}
use Rattle.plain.proofs.Follow.{follows_fresh}
use Rattle.plain.proofs.Kept.{proper}
use Rattle.plain.proofs.Lists.{begins_extends}
use Rattle.plain.proofs.FrameOffers.{one-offer}
use Rattle.plain.specs.Logs.{Logs, EachBegins, empty_logs, history_of}
use Rattle.plain.specs.Plain.{ledger, next}
use Rattle.plain.specs.Report.{Report, report_by, report_of}
use Rattle.readings.specs.Reading.{report_in}
use Rattle.settlement.specs.Books.{pending}
use Rattle.sheets.proofs.ProperLaws.{ProperSheet}
use Rattle.sheets.specs.Sheet.{Sheet, tx_count}
use Rattle.state.proofs.OnCells.{fresh-heights}
use Rattle.state.specs.Cells.{outcomes_in}
use Rattle.state.specs.Loading.{LoadsSheet}
use Rattle.state.specs.State.{Kept, cells_of, kept, sheet_of}
use Rattle.state.specs.declared.ledger.Ledger.{Ledger}
use Rattle.state.specs.declared.load.Loaded.{Loaded}
use Rattle.sums.proofs.SeqLaws.{get_d_tabulate, tabulate-past}
use Rattle.sums.proofs.SumLaws.{sum_ext}
use Rattle.sums.specs.Seq.{Begins, tabulate}
use Rattle.sums.specs.Sum.{sum_to}

-- ---- along the calls

loaded_beside : (S : Sheet) (l : Ledger) (K : Kept) (L : Logs) (run : List ℕ) (at : ℕ) (cells : List ℕ) (r : Loaded) → LoadsSheet l run at K.sheet cells r
    → Beside S l K L → Beside S r.ledger (kept cells K.ranks K.cuts K.cites K.good) L
loaded_beside S l K L run at cells r s I = rw (ap (λ (z : Loaded). z.ledger) (s.whole I.whole).0, (s.whole I.whole).1) I

along : (S : Sheet) → ProperSheet S → (l : Ledger) (K : Kept) (es : List Event) (l' : Ledger) (K' : Kept) (L : Logs) → Calls l K es l' K' → Beside S l K L
    → Plainly S L es × Beside S l' K' (foldl (next S) L (offers_in es))
unfolding Plainly offers_in
along S Q l K es l' K' L stop I = (tt, I)
along S Q l K es l' K' L (offer {K' = K1} {es = rest} {r = r} o lent p q) I =
    let (t, J) = along S Q r.ledger K1 rest l' K' _ q (offer-beside S Q l K _ o r K1 _ L p lent I) in
    ((offer-answer S Q l K _ o r K1 _ L p lent I, t), J)
along S Q l K es l' K' L (short {es = rest} {r = r} o lent few p q) I =
    let (t, J) = along S Q r.ledger K rest l' K' _ q (short-beside S l K _ _ o r _ _ L few p I) in
    ((short_told S l K _ _ o r _ _ L few p I, t), J)
along S Q l K es l' K' L (anew {J = J} f c) I = along S Q l J es l' K' L c (anew-beside l K J f S Q L I)
along S Q l K es l' K' L (reading {es = rest} {q = q} R c) I =
    let (t, J) = along S Q l K rest l' K' L c I in
    ((read_told S Q l K _ _ _ _ _ _ L I q R, t), J)
along S Q l K es l' K' L (few-read {es = rest} {q = q} J few R c) I =
    let (t, B) = along S Q l K rest l' K' L c I in
    ((few_told S l K J _ _ q _ _ _ _ L few R I, t), B)
along S Q l K es l' K' L (few-load {r = r} s c) I =
    along S Q r.ledger K es l' K' L c (rw (ap (λ (z : Loaded). z.ledger) (s.whole I.whole).0) I)
along S Q l K es l' K' L (loading {cells = cells} {run = run} {at = at} {r = r} s c) I = along S Q r.ledger _ es l' K' L c (loaded_beside S l K L run at cells r s I)

module _ (S : Sheet) (es : List Event) (l : Ledger) (K : Kept) (U : InUse S es l K) where
  first-sheet : S ≡ sheet_of U.first U.lent
  first-sheet = sheet_said S U.first U.lent U.opened U.whole

  pub Q : ProperSheet S
  Q = subst ProperSheet (sym first-sheet) (sheet-proper S U.first U.lent U.opened U.whole)

  pub begins : Beside S U.first U.lent (empty_logs S)
  begins =
      let e = (opened U.opened).empty in
      record {
        whole = U.whole;
        sheet = first-sheet;
        sixteen = ap length e ∙ length-replicate {A = ℕ} 16 0;
        follows = follows_fresh S _ (λ j k. fresh-heights (cells_of U.first U.lent) j (ap (λ (h : List ℕ). get_or h j 0) e ∙ get_or-replicate 16 j 0 0 (omega (arith, Q.small))));
      }

  pub comes : Plainly S (empty_logs S) es × Beside S l K (logs_of S es)
  unfolding ledger
  comes = along S Q U.first U.lent es l K (empty_logs S) U.calls begins

  logs_proper : ProperLogs S (history_of (logs_of S es))
  logs_proper = proper S _ comes.1.follows.plain

  right : report_in l K ≡ report_of S (logs_of S es)
  right = report_right S Q l K _ comes.1

  recorded : (c : Citation) → InLogs S (history_of (logs_of S es)) c → outcomes_in (cells_of l K) c ≡ outcome S (history_of (logs_of S es)) c
  recorded c w = outcomes_right S Q l K _ comes.1 c (w.0, omega (arith, w.1, comes.1.follows.alike.heights c.instance w.0))

  -- the sum of a column of the report: the free amounts, or the held
  column_sum : (column : Report → List ℕ) (f : ℕ → ℕ) → column (report_of S (logs_of S es)) ≡ tabulate S.a f → sum_to S.a (λ k. get_or (column (report_in l K)) k 0) ≡ sum_to S.a f
  column_sum column f e = sum_ext S.a _ f (λ k u. ap (λ (r : List ℕ). get_or r k 0) (ap column right ∙ e) ∙ get_d_tabulate S.a f k 0 u)

  log_is : (report_in l K).log ≡ log_all S (history_of (logs_of S es))
  unfolding report_of report_by log_all
  log_is = ap (λ (r : Report). r.log) right

  settlement_is : (x : ℕ) → x < tx_count S → settlement_in (report_in l K) x ≡ status_all S (history_of (logs_of S es)) x
  unfolding report_of report_by status_all
  settlement_is x u = ap (λ (r : Report). get_or r.settlements x pending) right ∙ get_d_tabulate (tx_count S) _ x pending u

  settlement_past : (x : ℕ) → (x < tx_count S → ⊥) → settlement_in (report_in l K) x ≡ pending
  unfolding report_of report_by
  settlement_past x u = ap (λ (r : Report). get_or r.settlements x pending) right ∙ tabulate-past (tx_count S) _ x pending (omega arith)

  pub read_right : Read S es l K (logs_of S es)
  read_right = record {
    sheet = sym comes.1.sheet;
    plainly = comes.0;
    outcomes = recorded;
    judged = outcome-is S _ logs_proper Q.some;
    only = outcome-only S _ logs_proper Q.some;
    report = right;
    adds_up =
        ap₂ ◌+◌ (column_sum (λ r. r.free) (free_all S (history_of (logs_of S es))) (unfold report_of report_by free_all in refl)) (column_sum (λ r. r.held) (held_all S (history_of (logs_of S es))) (unfold report_of report_by held_all in refl))
        ∙ adds_up S Q _ logs_proper;
    covered = covers S Q _ logs_proper;
  }

module _ (S : Sheet) (es es' : List Event) (l l' : Ledger) (K K' : Kept) (U : InUse S es l K) (U' : InUse S es' l' K') where
  module _ (h : EachBegins S (logs_of S es) (logs_of S es')) where
    grown-outcomes : (c : Citation) → InLogs S (history_of (logs_of S es)) c → outcomes_in (cells_of l K) c ≡ outcomes_in (cells_of l' K') c
    grown-outcomes c w =
        let E = begins_extends S _ _ h in
        recorded S es l K U c w
        ∙ sym (outcome_grown S (Q S es l K U).some _ _ (logs_proper S es l K U) (logs_proper S es' l' K' U') E c w)
        ∙ sym (recorded S es' l' K' U' c (w.0, omega (arith, w.1, E.longer c.instance w.0)))

    grown-log : Begins (report_in l K).log (report_in l' K').log
    grown-log = rw (log_is S es l K U, log_is S es' l' K' U')
        (log_grown S (Q S es l K U).some _ _ (logs_proper S es l K U) (logs_proper S es' l' K' U') (begins_extends S _ _ h))

    grown-settled : (x : ℕ) → settlement_in (report_in l K) x ≢ pending → settlement_in (report_in l' K') x ≡ settlement_in (report_in l K) x
    grown-settled x n = elim (dec_lt x (tx_count S)) [
      | yes u ↦
          let e = settlement_is S es l K U x u in
          settlement_is S es' l' K' U' x u
          ∙ status_grown S (Q S es l K U).some _ _ (logs_proper S es l K U) (logs_proper S es' l' K' U') (begins_extends S _ _ h) x (λ z. n (e ∙ z)) ∙ sym e
      | no u ↦ absurd (n (settlement_past S es l K U x u))
    ]

  pub agree : Agree S l K (logs_of S es) l' K' (logs_of S es')
  agree = record {
    report = λ e. right S es l K U ∙ ap (report_of S) e ∙ sym (right S es' l' K' U');
    outcomes = grown-outcomes;
    log = grown-log;
    settled = grown-settled;
  }

pub demand_3 : Demand
demand_3 = record { one = read_right; two = agree; as_values = λ S L lent bytes at b l p. one-offer S bytes at b p L lent l }
