-- From the answer to what a call for a reading leaves: a refused call leaves everything as it was, an accepted one fills its lists.
-- Assumes nothing.
use Rattle.std.proofs.Common.{Ok, Err}
use Prim.Native.Nat.{◌≤◌, ℕ}
use lib.ListN.{get_or, length, take}
use mathlib.Core.Bool.{false, true}
use mathlib.Core.List.{List, ◌++◌, map, map-id}
use mathlib.Core.Path.{◌∙◌, ◌≡◌, ap, ap₂, refl, sym}
use native.Mathlib.Omega.{arith}
use Rattle.admission.specs.Replies.{reply_to}
use Rattle.escrow.proofs.AmountCells.{free-in, held-in}
use Rattle.escrow.specs.Amounts.{free, held}
use Rattle.escrow.specs.Cells.{free_in, held_in}
use Rattle.escrow.specs.Share.{share_of}
use Rattle.plain.specs.Answer.{Answer, accepted, refused}
use Rattle.plain.specs.Report.{Query, filled_with, lists_of, read_answer, report_by, value_of}
use Rattle.readings.specs.Inner.{SettlesFull, places_in}
use Rattle.readings.specs.Reading.{Reads, report_in, work_lengths}
use Rattle.settlement.proofs.CountCells.{front_at}
use Rattle.settlement.specs.Cells.{rows_in}
use Rattle.settlement.specs.Settlement.{status}
use Rattle.settlement.specs.Tables.{Buffers, code_of, status_in}
use Rattle.settlement.specs.View.{Rows, View}
use Rattle.sheets.proofs.SheetCells.{sheet-a, sheet-count}
use Rattle.state.proofs.WorkLaws.{beyond-none}
use Rattle.state.specs.State.{Beyond, Kept, complete, sheet_of, sizes_of}
use Rattle.ordering.specs.Table.{count_in}
use Rattle.sums.proofs.FillLaws.{filled-front, map-tabulate, tabulate-front}
use Rattle.sums.proofs.TestLaws.{pick-false, pick_true}
use Rattle.sums.specs.Seq.{fill, tabulate, written}
use Rattle.refusals.specs.Refusals.{Checked, refusal_number, refusal_place}
use Rattle.refusals.specs.declared.Refusal.{Refusal}
use Rattle.sheets.specs.declared.sheet.Sizes.{Sizes}
use Rattle.state.specs.declared.ledger.Ledger.{Ledger}

-- ---- any call

module _ (l : Ledger) (K : Kept) (W : Buffers) (q : Query) (outs : List (List ℕ)) where
  -- the answer that the rules give
  abbrev pub answer_in : Answer
  answer_in = read_answer (complete l) (sheet_of l K) (report_in l K) q (work_lengths q K W ++ map length outs)

  pub reads-refused : (v : Checked) (x : Refusal) → v ≡ Err x → reply_to v ≡ answer_in → Reads l K W q outs (refused (refusal_number x) (refusal_place x)) 0 W outs
  reads-refused v x e a = record {
    tells = record { answered = ap reply_to (sym e) ∙ a; value = sym (pick-false false _ _ refl); lists = sym (pick-false false _ _ refl) };
    quiet = λ t. refl;
    beyond = beyond-none (sizes_of l) W;
  }

  pub reads-accepted : (v : Checked) → v ≡ Ok tt → reply_to v ≡ answer_in → (n : ℕ) → n ≡ value_of q (report_in l K) → (W' : Buffers) → Beyond (sizes_of l) W W'
      → (outs' : List (List ℕ)) → outs' ≡ filled_with (lists_of q (report_in l K)) outs → Reads l K W q outs accepted n W' outs'
  reads-accepted v e a n en W' b outs' eo = record {
    tells = record { answered = ap reply_to (sym e) ∙ a; value = en ∙ sym (pick_true true _ _ refl); lists = eo ∙ sym (pick_true true _ _ refl) };
    quiet = λ t. let w : ◌≡◌ {A = ℕ} 0 1 = cc in absurd (omega arith);
    beyond = b;
  }

-- ---- the lists, by the settled table

module _ (l : Ledger) (K : Kept) (W : Buffers) (values : List ℕ) (W' : Buffers) (s : SettlesFull l K W values W') (z : Sizes) (ez : z ≡ sizes_of l) where
  abbrev R : Rows
  R = rows_in K.ranks K.cites K.good

  abbrev v : View
  v = places_in l K.ranks

  module _ (view : List ℕ) (ev : count_in view ≡ places_in l K.ranks) where
    statuses-are : status_in (sizes_of l) W'.table ≡ status (sheet_of l K) R (count_in view)
    statuses-are = s.settled.statuses ∙ ap (status (sheet_of l K) R) (sym ev)

    -- an amount of each account, from the cells
    amounts-filled : (in_cells : Sizes → ℕ → ℕ) (amount : View → ℕ → ℕ) → ((i : ℕ) → in_cells (sizes_of l) i ≡ amount (count_in view) i) → (o o' : List ℕ) → o' ≡ written o 0 z.a (in_cells z)
        → o' ≡ fill (tabulate (sheet_of l K).a (amount v)) o
    amounts-filled in_cells amount h o o' e =
        filled-front o l.loading.a _ (amount v) o' (e ∙ ap (λ (y : Sizes). written o 0 y.a (in_cells y)) ez) (λ i u. h i ∙ ap (λ (w : View). amount w i) ev)
        ∙ ap (λ (n : ℕ). fill (tabulate n (amount v)) o) (sym (sheet-a K.sheet (sizes_of l)))

    pub free-filled : (o o' : List ℕ) → o' ≡ written o 0 z.a (free_in K.sheet z K.cites K.good view W'.table) → o' ≡ fill (report_in l K).free o
    unfolding report_in report_by
    free-filled = amounts-filled (λ y. free_in K.sheet y K.cites K.good view W'.table) (free (sheet_of l K) R) (free-in K.sheet (sizes_of l) K.ranks K.cites K.good view W'.table statuses-are)

    pub held-filled : (o o' : List ℕ) → o' ≡ written o 0 z.a (held_in K.sheet z K.cites K.good view W'.table) → o' ≡ fill (report_in l K).held o
    unfolding report_in report_by
    held-filled = amounts-filled (λ y. held_in K.sheet y K.cites K.good view W'.table) (held (sheet_of l K) R) (held-in K.sheet (sizes_of l) K.ranks K.cites K.good view W'.table statuses-are)

  pub registers-filled : l.loading.g ≤ length values → (o o' : List ℕ) → o' ≡ written o 0 z.g (λ j. get_or values j 0) → o' ≡ fill (report_in l K).registers o
  unfolding report_in report_by
  registers-filled h o o' e =
      filled-front o l.loading.g _ (λ j. get_or values j 0) o' (e ∙ ap (λ (y : Sizes). written o 0 y.g (λ j. get_or values j 0)) ez) (λ i u. refl)
      ∙ ap (λ (k : List ℕ). fill k o) (tabulate-front (λ x. x) values l.loading.g h ∙ map-id (take l.loading.g values) ∙ s.registers)

  pub statuses-filled : l.loading.t ≤ length W.table → (o o' : List ℕ) → o' ≡ written o 0 z.t (λ x. get_or W'.table x 0) → o' ≡ fill (map code_of (report_in l K).settlements) o
  unfolding report_in report_by
  statuses-filled h o o' e =
      filled-front o l.loading.t _ (λ x. code_of (status (sheet_of l K) R v x)) o' (e ∙ ap (λ (y : Sizes). written o 0 y.t (λ x. get_or W'.table x 0)) ez)
      (λ i u. ap (λ (d : List ℕ). get_or d i 0) s.settled.tabled ∙ front_at W.table l.loading.t _ i 0 u h)
      ∙ ap (λ (k : List ℕ). fill k o) (map-tabulate code_of l.loading.t (status (sheet_of l K) R v) ∙ ap (λ (n : ℕ). map code_of (tabulate n (status (sheet_of l K) R v))) (sym (sheet-count K.sheet (sizes_of l))))

  pub share_is : (n : ℕ) → n ≡ share_of z.t (status_in z W'.table) → n ≡ (report_in l K).share
  unfolding report_in report_by
  share_is n e =
      e ∙ ap (λ (y : Sizes). share_of y.t (status_in y W'.table)) ez ∙ ap₂ share_of (sym (sheet-count K.sheet (sizes_of l))) s.settled.statuses
