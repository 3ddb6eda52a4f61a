-- The whole text, put together from its parts.
-- Assumes nothing.
use Rattle.std.proofs.Common.{Ok, Err}
use Prim.Native.Nat.{◌<◌, ◌≤◌, suc, ℕ}
use borrow.Author.Tests.{le-ltb, lt-ltb}
use lib.ListN.{length}
use mathlib.Core.Bool.{false, true}
use mathlib.Core.List.{List, [], ◌++◌, append-nil}
use mathlib.Core.Path.{◌∙◌, ◌≡◌, ap, ap₂, refl, subst, sym}
use native.Mathlib.Omega.{arith}
use Rattle.closing.specs.Closing as closing
use Rattle.closing.specs.Closing.{Closes}
use Rattle.demand.proofs.Demand3.{Q, comes}
use Rattle.demand.proofs.Opened.{sheet_said}
use Rattle.demand.proofs.Steps.{report_right}
use Rattle.demand.specs.Chain.{InUse, Opening, no_sheet, stop}
use Rattle.demand.specs.Claim.{logs_of, offers_in}
use Rattle.plain.specs.Logs.{empty_logs}
use Rattle.plain.specs.Plain.{ledger}
use Rattle.plain.specs.Report.{Report, report_of}
use Rattle.readings.specs.Reading.{report_in}
use Rattle.refusals.specs.Refusals.{refusal_number, refusal_place}
use Rattle.refusals.specs.declared.Refusal.{Refusal}
use Rattle.replay.proofs.CourseLaws.{puts_text}
use Rattle.replay.proofs.OpenLaws.{Said}
use Rattle.replay.specs.Inner.{Ample, PutsBlocks, Stand}
use Rattle.report.specs.Inner.{PutsOpened}
use Rattle.replay.specs.Opening.{Opened, ended, no_loading, open_from, sheet}
use Rattle.replay.specs.Reading.{blocks_text, opened_text, reading_text}
use Rattle.replay.specs.declared.blocks.Blocks.{Blocks}
use Rattle.settlement.specs.Tables.{Buffers}
use Rattle.sheets.proofs.SheetCells.{sheet-a, sheet-count, sheet-g, sheet-m}
use Rattle.sheets.specs.Sheet.{Sheet, tx_count}
use Rattle.sheets.specs.declared.sheet.Sizes.{Sizes}
use Rattle.state.specs.State.{Kept, kept, sheet_of, sizes_of}
use Rattle.state.specs.declared.ledger.Ledger.{Ledger}
use Rattle.sums.proofs.TestLaws.{pick-false, pick_true}
use Rattle.text.proofs.WroteLaws.{wrote_as, wrote_then}
use Rattle.text.specs.Lines.{long_line, refused_line, run_line}
use Rattle.text.specs.Tail.{tail_text}
use Rattle.text.specs.Wrote.{Wrote}

-- ---- room for the readings

pub ample_readings : {K : Kept} {W : Buffers} → Ample K W → (b ranks cites good : List ℕ) (W' : Buffers) → length b ≡ length K.sheet → length ranks ≡ length K.ranks
    → length cites ≡ length K.cites → length good ≡ length K.good → length W'.counts ≡ length W.counts → length W'.table ≡ length W.table → length W'.order ≡ length W.order
    → closing.Ample (kept b ranks [] cites good) W'
ample_readings A b ranks cites good W' s r c g n t o = record {
  sheet = omega (arith, A.sheet);
  ranks = omega (arith, A.ranks);
  cites = omega (arith, A.cites);
  good = omega (arith, A.good);
  counts = omega (arith, A.counts);
  table = omega (arith, A.table);
  order = omega (arith, A.order);
}

pub ample_sheet : {K : Kept} {W : Buffers} (b : List ℕ) → length b ≡ length K.sheet → Ample K W → Ample (kept b K.ranks K.cuts K.cites K.good) W
ample_sheet b e A = record {
  sheet = omega (arith, A.sheet);
  ranks = A.ranks;
  cuts = A.cuts;
  cites = A.cites;
  good = A.good;
  counts = A.counts;
  table = A.table;
  order = A.order;
}

-- ---- from the `run` line on

module _ {run : List ℕ} {at : ℕ} {l : Ledger} {K : Kept} {out out1 : List ℕ} {start : ℕ} (z : Sizes) (sized : z ≡ sizes_of l)
    (w : Wrote out 0 (run_line z.m z.a z.g z.t) out1 start)
    {W : Buffers} {r : Blocks} {K' : Kept} {W' : Buffers} {out2 : List ℕ} (p : PutsBlocks run at l K W out1 start r K' W' out2) (A : Ample K W) where
  module _ (S : Sheet) (U : InUse S [] l K) where
    head : run_line z.m z.a z.g z.t ≡ run_line S.m S.a S.g (tx_count S)
    head =
        let e = (comes S [] l K U).1.sheet in
        rw (sized, e, sheet-m K.sheet (sizes_of l), sheet-a K.sheet (sizes_of l), sheet-g K.sheet (sizes_of l), sheet-count K.sheet (sizes_of l)) refl

    empty : logs_of S [] ≡ empty_logs S
    unfolding ledger offers_in
    empty = refl

    whole-text : (text : List ℕ) → text ≡ blocks_text (suc (length run)) S run at (logs_of S []) → run_line z.m z.a z.g z.t ++ text ≡ opened_text run (sheet S at)
    unfolding opened_text
    whole-text text e = ap₂ (λ (x y : List ℕ). x ++ y) head (e ∙ ap (blocks_text (suc (length run)) S run at) empty)

  pub opened-ends : r.ended ≡ true → PutsOpened run at l K out out2 r.place
  opened-ends t = record {
    text = λ S U.
        let (L, B, text, v, e) = puts_text p A S [] U in
        wrote_as (whole-text S U text (sym (append-nil text) ∙ ap (λ (x : List ℕ). text ++ x) (sym (pick_true r.ended [] _ t)) ∙ e)) (wrote_then w v);
  }

  pub opened_closes : {W₁ W₂ : Buffers} {out3 : List ℕ} {n : ℕ} → r.ended ≡ false → Closes r.ledger (kept K'.sheet K'.ranks [] K'.cites K'.good) W₁ out2 r.place W₂ out3 n
      → PutsOpened run at l K out out3 n
  unfolding report_in
  opened_closes f c = record {
    text = λ S U.
        let (L, B, text, v, e) = puts_text p A S [] U in
        let q : report_in r.ledger K' ≡ report_of S L = report_right S (Q S [] l K U) r.ledger K' L B in
        wrote_as (whole-text S U (text ++ tail_text (report_in r.ledger K')) (ap (λ (x : Report). text ++ tail_text x) q ∙ ap (λ (x : List ℕ). text ++ x) (sym (pick-false r.ended [] _ f)) ∙ e))
        (wrote_then w (wrote_then v c.text));
  }

-- ---- the whole

module _ (run : List ℕ) {out out' : List ℕ} {r : ℕ} where
  pub reads_long : 65536 < length run → Wrote out 0 long_line out' r → Wrote out 0 (reading_text run) out' r
  unfolding reading_text
  reads_long h w = wrote_as (sym (pick_true _ _ _ (lt-ltb 65536 (length run) h))) w

  reads-opened : (o : Opened) → length run ≤ 65536 → o ≡ open_from (suc (length run)) run 0 no_loading no_sheet → Wrote out 0 (opened_text run o) out' r → Wrote out 0 (reading_text run) out' r
  unfolding reading_text
  reads-opened o h e w = wrote_as (ap (opened_text run) e ∙ sym (pick-false _ _ _ (le-ltb 65536 (length run) h))) w

  pub reads-refused : {s : Stand} {x : Refusal} {n k : ℕ} → length run ≤ 65536 → Said (open_from (suc (length run)) run 0 no_loading no_sheet) s → s.result.answer ≡ Err x
      → n ≡ refusal_number x → k ≡ refusal_place x → Wrote out 0 (refused_line n k) out' r → Wrote out 0 (reading_text run) out' r
  unfolding opened_text
  reads-refused {x = x} h O e en ek w = reads-opened (ended x) h (rw e at O.came) (wrote_as (rw (en, ek) refl) w)

  pub reads_whole : {s : Stand} (ranks cuts cites good : List ℕ) → length run ≤ 65536 → Said (open_from (suc (length run)) run 0 no_loading no_sheet) s → s.result.answer ≡ Ok tt
      → PutsOpened run s.result.at s.result.ledger (kept s.cells ranks cuts cites good) out out' r → Wrote out 0 (reading_text run) out' r
  reads_whole {s} ranks cuts cites good h O e p =
      let l : Ledger = s.result.ledger in
      let K : Kept = kept s.cells ranks cuts cites good in
      let (S, chain) = O.opened in
      let U : InUse (sheet_of l K) [] l K = record {
        first = l;
        lent = K;
        opened = subst (λ (T : Sheet). Opening l s.cells T) (sheet_said S l K chain (O.whole e)) chain;
        whole = O.whole e;
        calls = stop;
      } in
      reads-opened (sheet (sheet_of l K) s.result.at) h (rw e at O.came) (p.text _ U)
