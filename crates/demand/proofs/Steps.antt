-- Each call keeps the ledger beside the plain ledger.
-- Assumes nothing.
use Prim.Native.Nat.{ℕ}
use lib.ListN.{length}
use mathlib.Core.Bool.{Bool, false, not, true}
use mathlib.Core.List.{List, [], ◌++◌, map}
use mathlib.Core.Path.{◌∙◌, ◌≡◌, ap, ap₂, refl, sym}
use Rattle.demand.proofs.Lengths.{offered_lengths}
use Rattle.escrow.proofs.Growth.{outcome_grown}
use Rattle.escrow.specs.Cells.{history_in}
use Rattle.escrow.specs.Outcome.{Citation, History, InLogs, full_view, outcome}
use Rattle.offers.specs.Offering.{Offers, answer_from, reply_of}
use Rattle.offers.specs.declared.answer.Offered.{Offered}
use Rattle.plain.proofs.Alike.{alike_extends}
use Rattle.plain.proofs.AnswerLaws.{lent_enough, lent-front, offer-lent, then_keep, then_not}
use Rattle.plain.proofs.Engine.{Answered, report_from, whole_view}
use Rattle.plain.proofs.Follow.{Follows, follows_next, same_answer}
use Rattle.plain.proofs.Kept.{proper}
use Rattle.plain.proofs.Reading.{reads_right}
use Rattle.plain.specs.Answer.{Answer, ◌then◌, accepted, is_accepted, refuse}
use Rattle.plain.specs.Logs.{Logs, history_of}
use Rattle.plain.specs.Offers.{Offer, lent_of, offer_needs, offered}
use Rattle.plain.specs.Plain.{answer, idle_answer, lent_answer, next}
use Rattle.plain.specs.Report.{Query, Report, Tells, accounts, fill_needs, lists_of, log, read_answer, registers, report_by, report_of, settle_needs, settlements, share, value_of, work_needs}
use Rattle.readings.specs.Reading.{Reads, lent_to, report_in, work_lengths}
use Rattle.settlement.specs.Cells.{rows_in}
use Rattle.settlement.specs.Tables.{Buffers}
use Rattle.settlement.specs.View.{view_log}
use Rattle.sheets.proofs.ProperLaws.{ProperSheet}
use Rattle.sheets.proofs.SheetCells.{sheet-a, sheet-count, sheet-m}
use Rattle.sheets.specs.Sheet.{Sheet}
use Rattle.state.proofs.Engine.{Roomy, engine_in}
use Rattle.state.proofs.Grows.{rows-in}
use Rattle.state.proofs.OnCells.{cells-answered}
use Rattle.state.specs.Cells.{Cells, cells_offered, past_in}
use Rattle.state.specs.State.{Kept, cells_of, complete, kept, lengths_of, sheet_of, sizes_of}
use Rattle.state.specs.declared.ledger.Ledger.{Ledger}
use Rattle.sums.proofs.TestLaws.{pick-false, pick_true}

-- the ledger l with its buffers K, and the plain ledger's logs L
pub record Beside (S : Sheet) (l : Ledger) (K : Kept) (L : Logs) : Type 0 where
  pub whole : complete l ≡ true
  pub sheet : S ≡ sheet_of l K
  pub sixteen : length l.heights ≡ 16
  pub follows : Follows S (engine_in (cells_of l K)) L

-- ---- an offer

module _ (S : Sheet) (Q : ProperSheet S) (l : Ledger) (K : Kept) (W : Buffers) (o : Offer) (r : Offered) (K' : Kept) (W' : Buffers) (L : Logs)
    (p : Offers l K W o r K' W') (lent : lent_of o ≡ lengths_of K W) (I : Beside S l K L) where
  due : answer_from l K o ≡ answer S (past_in (cells_of l K)) o
  unfolding answer_from
  due = pick_true _ _ _ I.whole ∙ ap (λ (T : Sheet). answer T (past_in (cells_of l K)) o) (sym I.sheet)

  roomy : answer S (past_in (cells_of l K)) o ≡ accepted → Roomy S.m (cells_of l K)
  unfolding offer_needs
  roomy e =
      let e1 = lent_enough _ _ _ _ (ap (lent_answer (offer_needs S)) (sym lent) ∙ offer-lent S (past_in (cells_of l K)) o e) in
      let e2 = lent_enough _ _ _ _ e1.1 in
      let e3 = lent_enough _ _ _ _ e2.1 in
      let e4 = lent_enough _ _ _ _ e3.1 in
      let e5 = lent_enough _ _ _ _ e4.1 in
      record { heights = I.sixteen; ranks = e2.0; cuts = e3.0; cites = e4.0; good = e5.0 }

  cells_are : cells_of r.ledger K' ≡ cells_offered S (answer S (past_in (cells_of l K)) o) (offered S o) (cells_of l K)
  cells_are = p.cells ∙ ap₂ (λ (T : Sheet) (a : Answer). cells_offered T a (offered T o) (cells_of l K)) (sym I.sheet) due

  says : reply_of r.answer ≡ answer S (past_in (cells_of l K)) o
  says = p.answered ∙ due

  step : Answered S o (reply_of r.answer) (engine_in (cells_of l K)) (engine_in (cells_of r.ledger K'))
  step = rw (says, cells_are) (cells-answered S Q (cells_of l K) o roomy)

  pub offer-answer : reply_of r.answer ≡ answer S (history_of L) o
  offer-answer = same_answer S Q _ _ L o _ step I.follows

  pub offer-beside : Beside S r.ledger K' (next S L o)
  offer-beside = record {
    whole = unfold complete in rw p.loading I.whole;
    sheet = I.sheet ∙ rw (p.loading, p.sheet) refl;
    sixteen = ap (λ (D : Cells). length D.heights) cells_are ∙ (offered_lengths S _ (offered S o) (cells_of l K)).heights ∙ I.sixteen;
    follows = follows_next S Q _ _ L o _ step I.follows;
  }

-- ---- an offer that lends too little: 16, whatever the buffers hold

short-answer : (S : Sheet) (H : History) (o : Offer) → is_accepted (lent_answer (offer_needs S) (lent_of o)) ≡ false
    → answer S H o ≡ (idle_answer o then lent_answer (offer_needs S) (lent_of o))
unfolding answer
short-answer S H o e = ap (◌then◌ (idle_answer o)) (then_keep (lent_answer (offer_needs S) (lent_of o)) _ e)

needs_same : (l : Ledger) (J K : Kept) → offer_needs (sheet_of l J) ≡ offer_needs (sheet_of l K)
unfolding offer_needs
needs_same l J K =
    rw (sheet-m J.sheet (sizes_of l), sheet-a J.sheet (sizes_of l), sheet-count J.sheet (sizes_of l))
    (rw (sheet-m K.sheet (sizes_of l), sheet-a K.sheet (sizes_of l), sheet-count K.sheet (sizes_of l)) refl)

module _ (S : Sheet) (l : Ledger) (K J : Kept) (W : Buffers) (o : Offer) (r : Offered) (J' : Kept) (W' : Buffers) (L : Logs)
    (few : is_accepted (lent_answer (offer_needs (sheet_of l K)) (lent_of o)) ≡ false) (p : Offers l J W o r J' W') (I : Beside S l K L) where
  few-there : is_accepted (lent_answer (offer_needs (sheet_of l J)) (lent_of o)) ≡ false
  few-there = rw (needs_same l J K) few

  few_here : is_accepted (lent_answer (offer_needs S) (lent_of o)) ≡ false
  few_here = rw I.sheet few

  found : answer_from l J o ≡ (idle_answer o then lent_answer (offer_needs (sheet_of l J)) (lent_of o))
  unfolding answer_from
  found = pick_true _ _ _ I.whole ∙ short-answer (sheet_of l J) (past_in (cells_of l J)) o few-there

  pub short_told : reply_of r.answer ≡ answer S (history_of L) o
  short_told =
      p.answered ∙ found
      ∙ ap (λ (n : List ℕ). idle_answer o then lent_answer n (lent_of o)) (needs_same l J K ∙ ap offer_needs (sym I.sheet))
      ∙ sym (short-answer S (history_of L) o few_here)

  heights_same : r.ledger.heights ≡ l.heights
  unfolding cells_offered
  heights_same =
      ap (λ (C : Cells). C.heights) (p.cells ∙ pick-false _ _ _ (ap is_accepted found ∙ then_not (idle_answer o) _ few-there))

  next_same : next S L o ≡ L
  unfolding next
  next_same = pick-false _ _ _ (ap is_accepted (short-answer S (history_of L) o few_here) ∙ then_not (idle_answer o) _ few_here)

  pub short-beside : Beside S r.ledger K (next S L o)
  short-beside = record {
    whole = unfold complete in rw p.loading I.whole;
    sheet = I.sheet ∙ rw p.loading refl;
    sixteen = ap length heights_same ∙ I.sixteen;
    follows = rw (heights_same, next_same) I.follows;
  }

-- ---- a reading

-- the recorded outcomes are the rules'
pub outcomes_right : (S : Sheet) → ProperSheet S → (l : Ledger) (K : Kept) (L : Logs) → Beside S l K L
    → (c : Citation) → InLogs S (past_in (cells_of l K)) c → (engine_in (cells_of l K)).flag c ≡ outcome S (history_of L) c
outcomes_right S Q l K L I c w =
    let F = I.follows in
    F.own c w ∙ sym (outcome_grown S Q.some (past_in (cells_of l K)) (history_of L) (proper S _ F.kept) (proper S _ F.plain) (alike_extends S _ _ F.alike) c w)

own_report : (l : Ledger) (K : Kept) → report_in l K ≡ report_from (sheet_of l K) (engine_in (cells_of l K))
unfolding report_in report_from full_view past_in history_in
own_report l K = ap (λ R. report_by (sheet_of l K) R (whole_view (engine_in (cells_of l K)))) (sym (rows-in (cells_of l K)))

-- the ledger's own report is the plain ledger's
pub report_right : (S : Sheet) → ProperSheet S → (l : Ledger) (K : Kept) (L : Logs) → Beside S l K L → report_in l K ≡ report_of S L
unfolding report_of
report_right S Q l K L I =
    own_report l K ∙ ap (λ (T : Sheet). report_from T (engine_in (cells_of l K))) (sym I.sheet)
    ∙ reads_right S Q.some (engine_in (cells_of l K)) (history_of L) I.follows.alike (outcomes_right S Q l K L I)

module _ (c : Bool) (S S' : Sheet) (r r' : Report) (work : List ℕ) (outs : List (List ℕ)) (a : Answer) (n : ℕ) (outs' : List (List ℕ)) (whole : c ≡ true) where
  told_as : (q : Query) → S' ≡ S → r' ≡ r → Tells c S' r' q work outs a n outs' → Tells true S r q work outs a n outs'
  told_as q s e t = rw (sym s, sym e, sym whole) t

  -- the log hangs on m and the log alone
  told_log : S'.m ≡ S.m → r'.log ≡ r.log → Tells c S' r' log work outs a n outs' → Tells true S r log work outs a n outs'
  unfolding read_answer work_needs fill_needs value_of lists_of
  told_log s e t = record {
    answered = t.answered ∙ rw (whole, s, e) refl;
    value = t.value ∙ rw e refl;
    lists = t.lists ∙ rw e refl;
  }

lent-report : (l : Ledger) (K : Kept) → report_in l (kept K.sheet K.ranks [] K.cites K.good) ≡ report_in l K
unfolding report_in
lent-report l K = refl

lent-log : (l : Ledger) (K : Kept) → (report_in l (kept [] K.ranks [] [] [])).log ≡ (report_in l K).log
unfolding report_in report_by view_log rows_in
lent-log l K = rw (sheet-m [] (sizes_of l), sheet-m K.sheet (sizes_of l)) refl

module _ (S : Sheet) (Q : ProperSheet S) (l : Ledger) (K : Kept) (W W' : Buffers) (outs outs' : List (List ℕ)) (a : Answer) (n : ℕ) (L : Logs) (I : Beside S l K L) where
  settled_told : (q : Query) (work : List ℕ) → Tells (complete l) (sheet_of l K) (report_in l (kept K.sheet K.ranks [] K.cites K.good)) q work outs a n outs'
      → Tells true S (report_of S L) q work outs a n outs'
  settled_told q work t = told_as _ S _ (report_of S L) _ work outs a n outs' I.whole q (sym I.sheet) (lent-report l K ∙ report_right S Q l K L I) t

  pub read_told : (q : Query) → Reads l (lent_to q K) W q outs a n W' outs' → Tells true S (report_of S L) q (work_lengths q (lent_to q K) W) outs a n outs'
  read_told accounts R = settled_told accounts _ R.tells
  read_told registers R = settled_told registers _ R.tells
  read_told settlements R = settled_told settlements _ R.tells
  read_told share R = settled_told share _ R.tells
  read_told log R =
      told_log _ S _ (report_of S L) _ _ outs a n outs' I.whole (sheet-m [] (sizes_of l) ∙ sym (sheet-m K.sheet (sizes_of l)) ∙ ap (λ (T : Sheet). T.m) (sym I.sheet))
      (lent-log l K ∙ ap (λ (x : Report). x.log) (report_right S Q l K L I)) R.tells

-- ---- a reading that lends too little: 16, whatever the buffers hold

settle_same : (l : Ledger) (J K : Kept) → settle_needs (sheet_of l J) ≡ settle_needs (sheet_of l K)
unfolding settle_needs
settle_same l J K =
    rw (sheet-m J.sheet (sizes_of l), sheet-a J.sheet (sizes_of l), sheet-count J.sheet (sizes_of l))
    (rw (sheet-m K.sheet (sizes_of l), sheet-a K.sheet (sizes_of l), sheet-count K.sheet (sizes_of l)) refl)

work_same : (l : Ledger) (J K : Kept) (q : Query) → work_needs (sheet_of l J) q ≡ work_needs (sheet_of l K) q
unfolding work_needs
work_same l J K accounts = settle_same l J K
work_same l J K registers = settle_same l J K
work_same l J K settlements = settle_same l J K
work_same l J K share = settle_same l J K
work_same l J K log = rw (sheet-m J.sheet (sizes_of l), sheet-m K.sheet (sizes_of l)) refl

as_many : (S : Sheet) (q : Query) (K : Kept) (W : Buffers) → length (work_needs S q) ≡ length (work_lengths q K W)
unfolding work_needs settle_needs
as_many S accounts K W = refl
as_many S registers K W = refl
as_many S settlements K W = refl
as_many S share K W = refl
as_many S log K W = refl

few-answer : (c : Bool) (S : Sheet) (r : Report) (q : Query) (K : Kept) (W : Buffers) (lists : List ℕ) → is_accepted (lent_answer (work_needs S q) (work_lengths q K W)) ≡ false
    → read_answer c S r q (work_lengths q K W ++ lists) ≡ (refuse (not c) 3 0 then lent_answer (work_needs S q) (work_lengths q K W))
unfolding read_answer
few-answer c S r q K W lists few = ap (λ (x : Answer). refuse (not c) 3 0 then x) (lent-front (work_needs S q) (work_lengths q K W) _ lists (as_many S q K W) few)

module _ (S : Sheet) (l : Ledger) (K J : Kept) (W W' : Buffers) (q : Query) (outs outs' : List (List ℕ)) (a : Answer) (n : ℕ) (L : Logs)
    (few : is_accepted (lent_answer (work_needs (sheet_of l K) q) (work_lengths q (lent_to q J) W)) ≡ false) (R : Reads l (lent_to q J) W q outs a n W' outs') (I : Beside S l K L) where
  needs_there : work_needs (sheet_of l (lent_to q J)) q ≡ work_needs S q
  needs_there = work_same l (lent_to q J) K q ∙ ap (λ (T : Sheet). work_needs T q) (sym I.sheet)

  few-work : is_accepted (lent_answer (work_needs S q) (work_lengths q (lent_to q J) W)) ≡ false
  few-work = rw I.sheet few

  found_few : a ≡ read_answer true S (report_of S L) q (work_lengths q (lent_to q J) W ++ map length outs)
  found_few =
      R.tells.answered
      ∙ few-answer (complete l) (sheet_of l (lent_to q J)) _ q (lent_to q J) W _ (rw needs_there few-work)
      ∙ ap₂ (λ (c : Bool) (x : List ℕ). refuse (not c) 3 0 then lent_answer x (work_lengths q (lent_to q J) W)) I.whole needs_there
      ∙ sym (few-answer true S (report_of S L) q (lent_to q J) W _ few-work)

  not_read : is_accepted a ≡ false
  not_read = ap is_accepted (found_few ∙ few-answer true S (report_of S L) q (lent_to q J) W _ few-work) ∙ then_not (refuse (not true) 3 0) _ few-work

  pub few_told : Tells true S (report_of S L) q (work_lengths q (lent_to q J) W) outs a n outs'
  few_told = record {
    answered = found_few;
    value = R.tells.value ∙ pick-false _ _ _ not_read ∙ sym (pick-false _ _ _ not_read);
    lists = R.tells.lists ∙ pick-false _ _ _ not_read ∙ sym (pick-false _ _ _ not_read);
  }
