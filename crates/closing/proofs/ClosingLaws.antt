-- Lists as long as any sheet needs: each reading of a complete ledger is accepted, stands at the front of its list, and all together are the report's text.
-- Assumes nothing.
use Prim.Native.Nat.{◌+◌, ◌≤◌, ℕ}
use lib.ListN.{length, length-map, take}
use mathlib.Core.Bool.{Bool, not, true}
use mathlib.Core.List.{List, [], ◌++◌, ◌∷◌, map}
use mathlib.Core.Path.{◌∙◌, ◌≡◌, ap, ap₂, fun_ext, sym}
use native.Mathlib.Omega.{arith}
use Rattle.closing.proofs.RegisterLaws.{registers-count}
use Rattle.closing.specs.Closing.{Ample, Closes}
use Rattle.closing.specs.Inner.{Long, Takes}
use Rattle.frames.proofs.HeaderLaws.{HeaderBounds}
use Rattle.ordering.proofs.Usable.{ordered}
use Rattle.ordering.specs.Order.{Ref, global_log}
use Rattle.ordering.specs.Table.{count_in, rank_in, usable}
use Rattle.plain.proofs.AnswerLaws.{refuse_false, then_go}
use Rattle.plain.specs.Answer.{Answer, ◌then◌, accepted, is_accepted, refuse}
use Rattle.plain.specs.Plain.{lent_answer}
use Rattle.plain.specs.Report.{Query, Report, Tells, accounts, fill_needs, filled_with, lists_of, log, read_answer, registers, report_by, settle_needs, settlements, share, value_of, work_needs}
use Rattle.readings.proofs.LogLaws.{blocks_of, lent_ranks, no_buffers}
use Rattle.readings.proofs.RoomLaws.{bounds}
use Rattle.readings.specs.Reading.{Reads, report_in, settle_lengths}
use Rattle.settlement.proofs.SettleCells.{log_fits}
use Rattle.settlement.specs.Cells.{rows_in}
use Rattle.settlement.specs.Tables.{Buffers, code_of}
use Rattle.settlement.specs.View.{view_log}
use Rattle.sheets.proofs.SheetCells.{sheet-a, sheet-count, sheet-g, sheet-m}
use Rattle.sheets.specs.Sheet.{Sheet, tx_count}
use Rattle.sheets.specs.declared.sheet.Sizes.{Sizes}
use Rattle.state.proofs.LengthLaws.{lent_end, lent_next}
use Rattle.state.proofs.WorkLaws.{beyond_then}
use Rattle.state.specs.State.{Beyond, Kept, complete, sheet_of, sizes_of}
use Rattle.state.specs.declared.ledger.Ledger.{Ledger}
use Rattle.sums.proofs.FillLaws.{take-fill}
use Rattle.sums.proofs.SeqLaws.{length-tabulate}
use Rattle.sums.proofs.TestLaws.{pick_true}
use Rattle.sums.specs.Seq.{fill}
use Rattle.text.proofs.TailLaws.{tail_of}
use Rattle.text.proofs.WroteLaws.{wrote_as}
use Rattle.text.specs.Tail.{lists_text}
use Rattle.text.specs.Wrote.{Wrote}

front-one : (x d x' : List ℕ) (n : ℕ) → x' ∷ [] ≡ fill x d ∷ [] → length x ≡ n → n ≤ length d → take n x' ∷ [] ≡ x ∷ []
front-one x d x' n e k h =
    let ex : x' ≡ fill x d = cc in
    ap (λ (f : List ℕ). f ∷ []) (ap (take n) ex ∙ take-fill x d n k h)

front-two : (x y d e x' y' : List ℕ) (n : ℕ) → x' ∷ y' ∷ [] ≡ fill x d ∷ fill y e ∷ [] → length x ≡ n → length y ≡ n → n ≤ length d → n ≤ length e
    → take n x' ∷ take n y' ∷ [] ≡ x ∷ y ∷ []
front-two x y d e x' y' n q kx ky hd he =
    let ex : x' ≡ fill x d = cc in
    let ey : y' ≡ fill y e = cc in
    ap₂ (λ (f g : List ℕ). f ∷ g ∷ []) (ap (take n) ex ∙ take-fill x d n kx hd) (ap (take n) ey ∙ take-fill y e n ky he)

-- what an accepted call tells
told : (c : Bool) (S : Sheet) (r : Report) (q : Query) (work : List ℕ) (outs : List (List ℕ)) (a : Answer) (n : ℕ) (outs' : List (List ℕ))
    → Tells c S r q work outs a n outs' → read_answer c S r q (work ++ map length outs) ≡ accepted → (n ≡ value_of q r) × (outs' ≡ filled_with (lists_of q r) outs)
told c S r q work outs a n outs' t h =
    let e : is_accepted a ≡ true = ap is_accepted (t.answered ∙ h) in
    (t.value ∙ pick_true _ _ _ e, t.lists ∙ pick_true _ _ _ e)

-- ---- the log, which its call reads from the ranks alone

log_is : (l : Ledger) (K : Kept) → (report_in l K).log ≡ blocks_of l K.ranks
unfolding report_in report_by view_log rows_in
log_is l K = ap₂ (λ (m : ℕ) (w : ℕ → ℕ). global_log m (rank_in K.ranks) w) (sheet-m K.sheet (sizes_of l)) (fun_ext (λ j. omega arith))

module _ (l : Ledger) (whole : complete l ≡ true) where
  header : HeaderBounds l.loading.m l.loading.a l.loading.g l.loading.t
  header = bounds l (refuse_false _ 3 0 (ap not whole))

  log-most : (K : Kept) → length (report_in l K).log ≤ 2048
  log-most K =
      let few = header.instances in
      log_fits l.loading.m (rank_in K.ranks) (usable (rank_in K.ranks) (count_in l.heights)) few (ordered l.loading.m (rank_in K.ranks) (count_in l.heights))
      (length (report_in l K).log) 2048 (omega (arith, few)) (ap length (log_is l K))

  module _ (K : Kept) where
    abbrev Own : Kept
    Own = lent_ranks K.ranks

    log-fine : 2048 ≤ length K.ranks → (i s : ℕ) → i ≡ 2048 → s ≡ 2048 → read_answer (complete l) (sheet_of l Own) (report_in l Own) log (length K.ranks ∷ i ∷ s ∷ []) ≡ accepted
    unfolding read_answer work_needs fill_needs
    log-fine h i s ei es =
        then_go _ _ _ (refuse_false _ 3 0 (ap not whole))
        (sym (lent_next _ _ _ _ (omega (arith, sheet-m [] (sizes_of l), header.instances))
        (lent_next _ _ _ _ (omega (arith, log-most Own)) (lent_next _ _ _ _ (omega (arith, log-most Own)) lent_end))))

    log-read : {i s i' s' : List ℕ} {a : Answer} {n : ℕ} {W' : Buffers} → 2048 ≤ length K.ranks → length i ≡ 2048 → length s ≡ 2048
        → Reads l Own no_buffers log (i ∷ s ∷ []) a n W' (i' ∷ s' ∷ []) → take n i' ∷ take n s' ∷ [] ≡ lists_of log (report_in l K)
    unfolding lists_of filled_with value_of
    log-read {i} {s} {i'} {s'} {n = n} h ei es R =
        let t = told _ _ _ log _ (i ∷ s ∷ []) _ n _ R.tells (log-fine h _ _ ei es) in
        let b : List Ref = (report_in l Own).log in
        front-two (map (λ (c : Ref). c.instance) b) (map (λ (c : Ref). c.index + 1) b) i s i' s' n t.1 (length-map b _ ∙ sym t.0) (length-map b _ ∙ sym t.0)
        (omega (arith, t.0, log-most Own)) (omega (arith, t.0, log-most Own))
        ∙ ap (λ (c : List Ref). map (λ (d : Ref). d.instance) c ∷ map (λ (d : Ref). d.index + 1) c ∷ []) (log_is l Own ∙ sym (log_is l K))

-- ---- the readings that settle

ample_still : (z : Sizes) (K : Kept) (W W' : Buffers) → Ample K W → Beyond z W W' → Ample K W'
ample_still z K W W' a b = record {
  sheet = a.sheet;
  ranks = a.ranks;
  cites = a.cites;
  good = a.good;
  counts = omega (arith, a.counts, b.counts-length);
  table = omega (arith, a.table, b.table-length);
  order = omega (arith, a.order, b.order-length);
}

module _ (l : Ledger) (whole : complete l ≡ true) (K : Kept) (W : Buffers) (ample : Ample K W) where
  abbrev S : Sheet
  S = sheet_of l K

  settles_fine : (needs lent : List ℕ) → accepted ≡ lent_answer needs lent → accepted ≡ lent_answer (settle_needs S ++ needs) (settle_lengths K W ++ lent)
  unfolding settle_needs
  settles_fine needs lent e =
      let h = header l whole in
      let em = sheet-m K.sheet (sizes_of l) in
      let ea = sheet-a K.sheet (sizes_of l) in
      let et = sheet-count K.sheet (sizes_of l) in
      lent_next _ _ _ _ (omega (arith, ample.sheet, ea, et, h.accounts, h.transactions))
      (lent_next _ _ _ _ (omega (arith, ample.ranks, em, h.instances))
      (lent_next _ _ _ _ (omega (arith, ample.cites, em, h.instances))
      (lent_next _ _ _ _ (omega (arith, ample.good, em, h.instances))
      (lent_next _ _ _ _ (omega (arith, ample.counts, et, h.transactions))
      (lent_next _ _ _ _ (omega (arith, ample.table, et, h.transactions))
      (lent_next _ _ _ _ (omega (arith, ample.order, em, h.instances)) e))))))

  -- once 3 and the working buffers are past
  fine : (needs lent : List ℕ) → accepted ≡ lent_answer needs lent → (refuse (not (complete l)) 3 0 then lent_answer (settle_needs S ++ needs) (settle_lengths K W ++ lent)) ≡ accepted
  fine needs lent e = then_go _ _ _ (refuse_false _ 3 0 (ap not whole)) (sym (settles_fine needs lent e))

  settlements-read : {c c' : List ℕ} {a : Answer} {W' : Buffers} → length c ≡ 1024 → Reads l K W settlements (c ∷ []) a 0 W' (c' ∷ []) → take l.loading.t c' ∷ [] ≡ lists_of settlements (report_in l K)
  unfolding read_answer work_needs fill_needs lists_of filled_with report_in report_by
  settlements-read {c} {c'} e R =
      let et = sheet-count K.sheet (sizes_of l) in
      let h = (header l whole).transactions in
      let t = told _ _ _ settlements _ (c ∷ []) _ 0 _ R.tells (fine _ _ (lent_next _ _ _ _ (omega (arith, et)) lent_end)) in
      front-one (map code_of (report_in l K).settlements) c c' l.loading.t t.1 (length-map (report_in l K).settlements code_of ∙ length-tabulate (tx_count S) _ ∙ et) (omega arith)

  accounts-read : {f h f' h' : List ℕ} {a : Answer} {W' : Buffers} → length f ≡ 1024 → length h ≡ 1024 → Reads l K W accounts (f ∷ h ∷ []) a 0 W' (f' ∷ h' ∷ [])
      → take l.loading.a f' ∷ take l.loading.a h' ∷ [] ≡ lists_of accounts (report_in l K)
  unfolding read_answer work_needs fill_needs lists_of filled_with report_in report_by
  accounts-read {f} {h} {f'} {h'} ef eh R =
      let ea = sheet-a K.sheet (sizes_of l) in
      let u = (header l whole).accounts in
      let t = told _ _ _ accounts _ (f ∷ h ∷ []) _ 0 _ R.tells (fine _ _ (lent_next _ _ _ _ (omega (arith, ea)) (lent_next _ _ _ _ (omega (arith, ea)) lent_end))) in
      front-two (report_in l K).free (report_in l K).held f h f' h' l.loading.a t.1 (length-tabulate S.a _ ∙ ea) (length-tabulate S.a _ ∙ ea) (omega arith) (omega arith)

  registers-read : {g g' : List ℕ} {a : Answer} {W' : Buffers} → length g ≡ 64 → Reads l K W registers (g ∷ []) a 0 W' (g' ∷ []) → take l.loading.g g' ∷ [] ≡ lists_of registers (report_in l K)
  unfolding read_answer work_needs fill_needs lists_of filled_with report_in report_by
  registers-read {g} {g'} e R =
      let eg = sheet-g K.sheet (sizes_of l) in
      let h = (header l whole).registers in
      let t = told _ _ _ registers _ (g ∷ []) _ 0 _ R.tells (fine _ _ (lent_next _ _ _ _ (omega (arith, eg)) lent_end)) in
      front-one (report_in l K).registers g g' l.loading.g t.1 (registers-count S _ _ ∙ eg) (omega arith)

  share-read : {a : Answer} {n : ℕ} {W' : Buffers} → Reads l K W share [] a n W' [] → n ≡ value_of share (report_in l K)
  unfolding read_answer work_needs fill_needs
  share-read R = (told _ _ _ share _ [] _ _ _ R.tells (fine [] [] lent_end)).0

-- ---- all that settle

module _ {l : Ledger} {K : Kept} {W W1 W2 W3 W4 : Buffers} {c c' f h f' h' g g' : List ℕ} {a1 a2 a3 a4 : Answer} {k : ℕ}
    (txs : Reads l K W settlements (c ∷ []) a1 0 W1 (c' ∷ [])) (amounts : Reads l K W1 accounts (f ∷ h ∷ []) a2 0 W2 (f' ∷ h' ∷ []))
    (cells : Reads l K W2 registers (g ∷ []) a3 0 W3 (g' ∷ [])) (settled : Reads l K W3 share [] a4 k W4 []) where
  to_second : Beyond (sizes_of l) W W2
  to_second = beyond_then (sizes_of l) W W1 W2 txs.beyond amounts.beyond

  to_third : Beyond (sizes_of l) W W3
  to_third = beyond_then (sizes_of l) W W2 W3 to_second cells.beyond

  pub to_last : Beyond (sizes_of l) W W4
  to_last = beyond_then (sizes_of l) W W3 W4 to_third settled.beyond

  pub taken : (complete l ≡ true) × Ample K W × Long c f h g → Takes l K W k W4 c' f' h' g'
  taken (whole, room, long) = record {
    settled = settlements-read l whole K W room long.transactions txs;
    amounts = accounts-read l whole K W1 (ample_still _ K W W1 room txs.beyond) long.accounts long.accounts_too amounts;
    registers = registers-read l whole K W2 (ample_still _ K W W2 room to_second) long.registers cells;
    share = share-read l whole K W3 (ample_still _ K W W3 room to_third) settled;
    beyond = to_last;
  }

-- ---- and the log: the text

pub closed : {l : Ledger} {K : Kept} {W W' U : Buffers} {c f h g i s i' s' : List ℕ} {k : ℕ} {z : Sizes} {a : Answer} {n : ℕ} {out out' : List ℕ} {at r : ℕ} → Takes l K W k W' c f h g → z ≡ sizes_of l
    → (complete l ≡ true) × Ample K W → Reads l (lent_ranks K.ranks) no_buffers log (i ∷ s ∷ []) a n U (i' ∷ s' ∷ []) → length i ≡ 2048 → length s ≡ 2048
    → Wrote out at (lists_text (take n i') (take n s') (take z.t c) (take z.a f) (take z.a h) (take z.g g) k) out' r → Closes l K W out at W' out' r
closed {l} {K} {c = c} {f} {h} {g} {i' = i'} {s'} {k} {n = n} t ez pre logged ei es w = record {
  text = wrote_as
      (ap (λ (y : Sizes). lists_text (take n i') (take n s') (take y.t c) (take y.a f) (take y.a h) (take y.g g) k) ez
      ∙ ap (lists_text (take n i') (take n s') (take l.loading.t c) (take l.loading.a f) (take l.loading.a h) (take l.loading.g g)) t.share
      ∙ tail_of (report_in l K) _ _ _ _ _ _ (log-read l pre.0 K pre.1.ranks ei es logged) t.settled t.amounts t.registers)
      w;
  beyond = t.beyond;
}
