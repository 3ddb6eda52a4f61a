-- The call for the log: what it answers, what its loop asks, and what it leaves.
-- Assumes nothing.
use Rattle.std.proofs.Common.{Ok}
use Prim.Native.Nat.{◌*◌, ◌+◌, ◌≤◌, ℕ}
use lib.Dec.{ltb}
use lib.ListN.{get_or, length, take}
use mathlib.Core.Bool.{not}
use mathlib.Core.List.{List, [], ◌∷◌, map, map-map}
use mathlib.Core.Path.{◌∙◌, ◌≡◌, ap, ap₂, fun_ext, refl, sym}
use native.Mathlib.Omega.{arith}
use Rattle.admission.specs.Replies.{reply_to}
use Rattle.ordering.proofs.Usable.{ordered}
use Rattle.ordering.specs.Order.{Ref, global_log}
use Rattle.ordering.specs.Table.{block_id, count_in, rank_in, ref_in, usable}
use Rattle.plain.proofs.AnswerLaws.{then_accepted}
use Rattle.plain.specs.Answer.{◌then◌, accepted, refuse}
use Rattle.plain.specs.Plain.{lent_answer}
use Rattle.plain.specs.Report.{fill_needs, filled_with, lists_of, log, report_by, value_of, work_needs}
use Rattle.readings.proofs.ReadLaws.{answer_in, reads-accepted}
use Rattle.readings.proofs.RoomLaws.{answer-two, bounds, next_passed}
use Rattle.readings.specs.Reading.{Reads, report_in}
use Rattle.settlement.proofs.SettleCells.{log_fits, log-front}
use Rattle.settlement.specs.Cells.{rows_in}
use Rattle.settlement.specs.Tables.{Buffers, buffers}
use Rattle.settlement.specs.View.{view_log}
use Rattle.sheets.proofs.SheetCells.{sheet-m}
use Rattle.state.proofs.WorkLaws.{beyond-none}
use Rattle.state.specs.State.{Kept, complete, kept, sizes_of}
use Rattle.sums.proofs.FillLaws.{filled-front, tabulate-front}
use Rattle.sums.proofs.SeqLaws.{length-fill}
use Rattle.sums.specs.Seq.{fill, written}
use Rattle.refusals.specs.Refusals.{Checked}
use Rattle.state.specs.declared.ledger.Ledger.{Ledger}

-- what is lent beside the two lists
abbrev pub lent_ranks : List ℕ → Kept
lent_ranks ranks = kept [] ranks [] [] []

abbrev pub no_buffers : Buffers
no_buffers = buffers [] [] []

-- the log as the merge of the ranks gives it
abbrev pub blocks_of : Ledger → List ℕ → List Ref
blocks_of l ranks = global_log l.loading.m (rank_in ranks) (usable (rank_in ranks) (count_in l.heights))

module _ (l : Ledger) (ranks : List ℕ) where
  log_is : (report_in l (lent_ranks ranks)).log ≡ blocks_of l ranks
  unfolding report_in report_by view_log rows_in
  log_is = ap₂ (λ (m : ℕ) (w : ℕ → ℕ). global_log m (rank_in ranks) w) (sheet-m [] (sizes_of l)) (fun_ext (λ j. omega arith))

  module _ (n : ℕ) (en : n ≡ length (blocks_of l ranks)) (i k : List ℕ) (due first second v : Checked) (e : reply_to due ≡ refuse (not (complete l)) 3 0)
      (e1 : reply_to first ≡ (reply_to due then refuse (ltb (length ranks) (128 * l.loading.m)) 16 (128 * l.loading.m)))
      (e2 : reply_to second ≡ (reply_to first then refuse (ltb (length i) n) 16 n)) (e3 : reply_to v ≡ (reply_to second then refuse (ltb (length k) n) 16 n)) where
    pub answer-log : reply_to v ≡ answer_in l (lent_ranks ranks) no_buffers log (i ∷ k ∷ [])
    unfolding work_needs fill_needs lent_answer
    answer-log =
        answer-two l (lent_ranks ranks) no_buffers log (report_in l (lent_ranks ranks)) (reply_to first)
        (e1 ∙ ap₂ ◌then◌ e (ap (λ (m : ℕ). refuse (ltb (length ranks) (128 * m)) 16 (128 * m)) (sym (sheet-m [] (sizes_of l))) ∙ sym (then_accepted _)))
        n (length i) (reply_to second) e2 n (length k) (reply_to v) e3 (ap (λ (b : List Ref). length b ∷ length b ∷ []) log_is ∙ ap (λ (x : ℕ). x ∷ x ∷ []) (sym en))

    module _ (t : v ≡ Ok tt) where
      passed-third : (reply_to second ≡ accepted) × (n ≤ length k)
      passed-third = next_passed (reply_to second) (reply_to v) n (length k) e3 (ap reply_to t)

      passed-second : (reply_to first ≡ accepted) × (n ≤ length i)
      passed-second = next_passed (reply_to first) (reply_to second) n (length i) e2 passed-third.0

      few : l.loading.m ≤ 16
      few = (bounds l (sym e ∙ (next_passed (reply_to due) (reply_to first) (128 * l.loading.m) (length ranks) e1 passed-second.0).0)).instances

      -- 16 instances of 128 blocks
      pub log-short : n ≤ 2048
      log-short = log_fits l.loading.m (rank_in ranks) (usable (rank_in ranks) (count_in l.heights)) few (ordered l.loading.m (rank_in ranks) (count_in l.heights)) n 2048 (omega (arith, few)) en

      module _ (d order : List ℕ) (ed : length d ≡ 2048) (eo : order ≡ fill (map block_id (blocks_of l ranks)) d) where
        pub log-ready : (n ≤ length order) × (n ≤ length i) × (n ≤ length k)
        log-ready = (omega (arith, log-short, ap length eo ∙ length-fill (map block_id (blocks_of l ranks)) d), passed-second.1, passed-third.1)

        refs-are : map ref_in (take n order) ≡ (report_in l (lent_ranks ranks)).log
        refs-are =
            log-front l.loading.m (rank_in ranks) (usable (rank_in ranks) (count_in l.heights)) few (ordered l.loading.m (rank_in ranks) (count_in l.heights)) n 2048 (omega (arith, few)) en d order ed eo
            ∙ sym log_is

        -- one list: f of every block
        log-filled : (f : Ref → ℕ) (o o' : List ℕ) → o' ≡ written o 0 n (λ p. f (ref_in (get_or order p 0))) → o' ≡ fill (map f (report_in l (lent_ranks ranks)).log) o
        log-filled f o o' q =
            filled-front o n _ (λ p. f (ref_in (get_or order p 0))) o' q (λ p u. refl)
            ∙ ap (λ (b : List ℕ). fill b o) (tabulate-front (λ x. f (ref_in x)) order n log-ready.0 ∙ sym (map-map f ref_in (take n order)) ∙ ap (map f) refs-are)

        pub log-told : (i' k' : List ℕ) → (i' ≡ written i 0 n (λ p. (ref_in (get_or order p 0)).instance)) × (k' ≡ written k 0 n (λ p. (ref_in (get_or order p 0)).index + 1))
            → Reads l (lent_ranks ranks) no_buffers log (i ∷ k ∷ []) accepted n no_buffers (i' ∷ k' ∷ [])
        unfolding filled_with lists_of value_of
        log-told i' k' w =
            reads-accepted l (lent_ranks ranks) no_buffers log (i ∷ k ∷ []) v t answer-log n (en ∙ ap length (sym log_is)) no_buffers (beyond-none (sizes_of l) no_buffers) (i' ∷ k' ∷ [])
            (ap₂ (λ (x y : List ℕ). x ∷ y ∷ []) (log-filled (λ (b : Ref). b.instance) i i' w.0) (log-filled (λ (b : Ref). b.index + 1) k k' w.1))
