-- The sheet that a run of bytes opens with has its numbers in range: loading it, frame by frame, keeps them so.
-- Assumes nothing.
use Rattle.std.proofs.Common.{Ok, Err, Some, None}
use Prim.Native.Nat.{◌<◌, ◌≤◌, suc, zero, ℕ}
use lib.Dec.{eqb, ltb}
use lib.ListN.{drop, get_or, length, length-replicate, replicate, set}
use lib.Seq.{sets}
use mathlib.Core.Bool.{false, true}
use mathlib.Core.List.{List, [], ◌∷◌}
use mathlib.Core.Path.{◌≡◌, refl, subst, sym}
use native.Mathlib.Omega.{arith}
use Rattle.demand.proofs.Opened.{sheet-proper, sheet_said}
use Rattle.demand.specs.Chain.{Opening, begin, no_sheet, sheet_with}
use Rattle.extent.proofs.FrameLaws.{OfFrame, StepOf, body_bytes, four_bytes, step_of}
use Rattle.extent.proofs.LogLaws.{SheetFits, low_set, zeros_low}
use Rattle.fields.proofs.NumberLaws.{AreBytes-drop, take-bytes}
use Rattle.fields.specs.Number.{AreBytes}
use Rattle.frames.specs.Frame.{body_at, body_of, frame_at}
use Rattle.frames.specs.Step.{kind_due, step_at}
use Rattle.frames.specs.declared.step.Loading.{Loading}
use Rattle.frames.specs.Step.{Step}
use Rattle.frames_load.specs.Load.{body_stored, load_cells, loaded_cells, room}
use Rattle.refusals.specs.Refusals.{refusal_number, refusal_place}
use Rattle.refusals.specs.declared.Refusal.{Refusal}
use Rattle.replay.proofs.OpenLaws.{more_loaded, step-ends}
use Rattle.replay.specs.Opening.{Opened, ended, no_loading, open_from, open_step, sheet}
use Rattle.sheets.specs.Sheet.{Sheet, balance_in, sheet_from, sheet_in, slot_from, slot_in, transaction_in}
use Rattle.state.specs.State.{Kept, complete, fresh_ledger, kept}
use Rattle.state.specs.declared.ledger.Ledger.{Ledger}
use Rattle.sums.proofs.FillLaws.{each_tabulated}
use Rattle.sums.proofs.TestLaws.{by-pick}
use Rattle.sums.specs.Seq.{tabulate}
use Rattle.transactions.specs.Body.{operation_in, operations_from, transaction_of}
use Rattle.transactions.specs.Content.{Operation, Transaction, no_operation, no_transaction, operation_of}

-- ---- a sheet read from cells of bytes

operation_low : (n : ℕ) (s : List ℕ) (k : ℕ) → AreBytes s → (operation_of (tabulate n (operation_in s)) k).value < 4294967296
operation_low n s k h = each_tabulated (λ (o : Operation). o.value < 4294967296) n (operation_in s) no_operation (λ i u. four_bytes s _ h) (omega arith) k

transaction_low : (b : List ℕ) (k : ℕ) → AreBytes b → (operation_of (transaction_of b).operations k).value < 4294967296
unfolding transaction_of
transaction_low b k h = operation_low (get_or b 3 0) (drop (operations_from b) b) k (AreBytes-drop (operations_from b) b h)

module _ (m a g n : ℕ) (cells : List ℕ) (h : AreBytes cells) where
  values_low : (x k : ℕ) → (operation_of (get_or (tabulate n (transaction_in a cells)) x no_transaction).operations k).value < 4294967296
  values_low x k =
      each_tabulated (λ (y : Transaction). (operation_of y.operations k).value < 4294967296) n (transaction_in a cells) no_transaction
      (λ i u. transaction_low (slot_in a cells i) k (take-bytes 100 (drop (slot_from a i) cells) (AreBytes-drop (slot_from a i) cells h))) (omega arith) x

  balances_low : (k : ℕ) → get_or (tabulate a (balance_in cells)) k 0 ≤ 1099511627776
  balances_low k = each_tabulated (λ (n : ℕ). n ≤ 1099511627776) a (balance_in cells) 0 (λ i u. omega arith) (omega arith) k

-- ---- cells stay bytes

bytes-sets : (vs l : List ℕ) (i : ℕ) → AreBytes l → AreBytes vs → AreBytes (sets l i vs)
bytes-sets [] l i h u = h
bytes-sets (v ∷ vs) l i h u = bytes-sets vs (set l i v) (suc i) (low_set 256 l i v h (u 0)) (λ k. u (suc k))

stored_bytes : (s : Loading) (b cells : List ℕ) → AreBytes b → AreBytes cells → AreBytes (body_stored s b cells)
unfolding body_stored
stored_bytes s b cells h u =
    by-pick AreBytes (eqb (kind_due s) 2) (λ e. bytes-sets b cells 0 u h) (λ e. by-pick AreBytes (eqb (kind_due s) 3) (λ q. bytes-sets b cells _ u h) (λ q. u))

step-bytes : (s : Loading) (b cells : List ℕ) (t : Step) → AreBytes b → AreBytes cells → AreBytes (loaded_cells s b cells t)
step-bytes s b cells (Ok (Some (next, end))) h u = stored_bytes s b cells h u
step-bytes s b cells (Err r) h u = u
step-bytes s b cells (Ok None) h u = u

load-bytes : (run : List ℕ) (at : ℕ) (s : Loading) (cells : List ℕ) → AreBytes run → AreBytes cells → AreBytes (load_cells run at s cells)
unfolding load_cells
load-bytes run at s cells h u =
    by-pick AreBytes (ltb (length cells) (room s)) (λ e. u) (λ e. step-bytes s (body_of (frame_at run at) run) cells (step_at run at s) (body_bytes run (frame_at run at) h) u)

-- ---- the run, opened

abbrev pub OpenedFits : Opened → Type 0
OpenedFits (sheet S at) = SheetFits S
OpenedFits (ended r) = (refusal_number r < 256) × (refusal_place r < 18446744073709551616)

module _ (run : List ℕ) (bytes : AreBytes run) (short : length run ≤ 65536) where
  -- a refusal at an offset in the run
  place_fits : (at : ℕ) (r : Refusal) → at ≤ length run → OfFrame at r → OpenedFits (ended r)
  place_fits at r l h = (omega (arith, h.0), omega (arith, h.1))

  module _ (fuel at : ℕ) (l : Ledger) (cells : List ℕ) (S : Sheet) (o : Opening l cells S) (h : 110592 ≤ length cells) (u : AreBytes cells) (inside : at ≤ length run)
      (rest : (end : ℕ) (l' : Ledger) (cells' : List ℕ) (S' : Sheet) → Opening l' cells' S' → 110592 ≤ length cells' → AreBytes cells' → end ≤ length run
      → OpenedFits (open_from fuel run end l'.loading S')) where
    whole-fits : complete l ≡ true → SheetFits S
    unfolding sheet_in sheet_from
    whole-fits e =
        let K : Kept = kept cells [] [] [] [] in
        subst SheetFits (sym (sheet_said S l K o e)) (record {
          proper = sheet-proper S l K o e;
          balances = balances_low l.loading.m l.loading.a l.loading.g l.loading.t cells u;
          values = values_low l.loading.m l.loading.a l.loading.g l.loading.t cells u;
        })

    by_step : complete l ≡ false → (t : Step) → step_at run at l.loading ≡ t → OpenedFits (open_step (λ next end. open_from fuel run end next (sheet_with l.loading (body_at run at) S)) at t)
    by_step e (Ok (Some (next, end))) q =
        let (o', h') = more_loaded run at l cells S o h e next end q in
        rest end (record { loading = next; heights = l.heights }) _ _ o' h' (load-bytes run at l.loading cells bytes u) (step-ends run at l.loading next end q).1
    by_step e (Err x) q = place_fits at x inside (subst (StepOf at) q (step_of run at l.loading))
    by_step e (Ok None) q = (omega arith, omega (arith, inside))

    step_fits : OpenedFits (open_from (suc fuel) run at l.loading S)
    unfolding open_from complete
    step_fits = by-pick OpenedFits (eqb (kind_due l.loading) 4) whole-fits (λ e. by_step e (step_at run at l.loading) refl)

  go : (fuel at : ℕ) (l : Ledger) (cells : List ℕ) (S : Sheet) → Opening l cells S → 110592 ≤ length cells → AreBytes cells → at ≤ length run → OpenedFits (open_from fuel run at l.loading S)
  go zero at l cells S o h u inside = unfold open_from in (omega arith, omega (arith, inside))
  go (suc fuel) at l cells S o h u inside = step_fits fuel at l cells S o h u inside (λ end l' cells' S' o' h' u' inside'. go fuel end l' cells' S' o' h' u' inside')

  pub opening_fits : OpenedFits (open_from (suc (length run)) run 0 no_loading no_sheet)
  opening_fits =
      go (suc (length run)) 0 fresh_ledger (replicate 110592 0) no_sheet begin (omega (arith, length-replicate {A = ℕ} 110592 0)) (zeros_low 256 110592 (omega arith)) (omega arith)
