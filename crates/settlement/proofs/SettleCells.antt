-- The whole of a settlement on cells: the view's whole blocks, the contracts of its log, then the counts of the view and the payments.
-- Assumes nothing.
use Prim.Native.Nat.{◌%◌, ◌*◌, ◌+◌, ◌/◌, ◌<◌, ◌≤◌, min, suc, zero, ℕ}
use borrow.Author.Tests.{eq-eqb, eqb-false, eqb-true, le-ltb, lt-ltb, ne_eqb}
use lib.Dec.{eqb}
use lib.ListN.{get_or-eq_default, get_or, length, length-map, replicate, take}
use lib.Seq.{take_at}
use mathlib.Core.Bool.{Bool, false, true}
use mathlib.Core.List.{List, [], ◌∷◌, map}
use mathlib.Core.Logic.{◌≢◌}
use mathlib.Core.Path.{◌∙◌, ◌≡◌, ap, ap₂, fun_ext, refl, subst, sym}
use native.Mathlib.Decide.{dec_lt}
use native.Mathlib.Nat.{not-suc-le-zero}
use native.Mathlib.Omega.{arith}
use Rattle.ordering.proofs.LogSum.{log-size}
use Rattle.ordering.proofs.Prefix.{log_ids}
use Rattle.ordering.specs.Order.{Ref, global_log}
use Rattle.ordering.specs.Table.{Ordered, block_id, count_in, rank_in, ref_in}
use Rattle.settlement.proofs.BookCells.{events_any}
use Rattle.settlement.proofs.CountCells.{cleared, counts_rows, front_at, front_is, front-past}
use Rattle.settlement.specs.Cells.{rows_in}
use Rattle.settlement.specs.Books.{Status, empty_book, paid, pending, returned, run_all}
use Rattle.settlement.specs.Inner.{Counts, Holds, count_rows, most, no_tally, pay_to, payment_of, with_rows}
use Rattle.settlement.specs.Settlement.{cited, contracts, failed, is_cite, is_fail, payment, status}
use Rattle.settlement.specs.Tables.{Settled, code_of, buffers, status_in, status_of, tally_at, whole_of}
use Rattle.settlement.specs.View.{Event, Rows, View, event_at, log_events, view_log, view_sum}
use Rattle.settlement.proofs.PayCells.{pay_to_at, pay_to-length, pay_to-past}
use Rattle.sheets.proofs.SheetCells.{sheet-count, sheet-m}
use Rattle.sheets.specs.Parts.{is_contract, parts}
use Rattle.sheets.specs.Sheet.{sheet_from, sheet_in, tx_count}
use Rattle.sums.proofs.FilledLaws.{filled_end}
use Rattle.sums.proofs.LoopLaws.{sum_most}
use Rattle.sums.proofs.SeqLaws.{fill-room, length-written}
use Rattle.sums.proofs.TestLaws.{flip-le, given-le, pick-false, pick_true}
use Rattle.sums.specs.Seq.{fill, written}
use Rattle.sums.specs.Sum.{sum_to}
use Rattle.sums.specs.Test.{flip, pick}
use Rattle.sheets.specs.declared.sheet.Sizes.{Sizes}

-- ---- the whole blocks of a view

-- past sixteen there is no instance
pub whole-past : (v : List ℕ) → length v ≡ 16 → (i : ℕ) → 16 ≤ i → whole_of (count_in v) i ≡ 0
whole-past v e i h = omega (arith, get_or-eq_default v 0 {n = i} (omega arith))

-- an array of sixteen whose entries are the blocks of those of v
pub whole_is : (v r : List ℕ) → length v ≡ 16 → length r ≡ 16 → ((i : ℕ) → i < 16 → get_or r i 0 ≡ get_or v i 0 / 32) → count_in r ≡ whole_of (count_in v)
whole_is v r ev er h = filled_end 16 (whole_of (count_in v)) r 16 (omega arith) (whole-past v ev) (record { size = er; done = h })

-- ---- the contracts of a view

zeros : (g n : ℕ) → g ≤ n → take {A = ℕ} g (replicate n 0) ≡ replicate g 0
zeros zero n h = refl
zeros (suc g) zero h = absurd (not-suc-le-zero h)
zeros (suc g) (suc n) h = ap (λ (l : List ℕ). 0 ∷ l) (zeros g n (omega arith))

pub fresh_holds : (b : List ℕ) (z : Sizes) (counts table : List ℕ) → z.g ≤ 64 → 2 * z.t ≤ length counts → z.t ≤ length table
    → (counts' table' : List ℕ) → counts' ≡ written counts 0 (2 * z.t) (λ i. 0) → table' ≡ written table 0 z.t (λ i. 0)
    → Holds z counts table (empty_book (sheet_in b z)) counts' table' (replicate 64 0)
unfolding sheet_in sheet_from
fresh_holds b z counts table h rc rt counts' table' ec et =
    let k : Counts z.t counts no_tally counts' = subst (Counts z.t counts no_tally) (sym ec) (cleared z.t counts rc) in
    record {
      counted = record { cited = k.cited; failed = k.failed; size = k.size; past = k.past };
      status = λ x l. ap (λ (q : List ℕ). get_or q x 0) et ∙ front_at table z.t (λ i. 0) x 0 l rt;
      size = ap length et ∙ length-written table 0 z.t (λ i. 0);
      past = λ x l. ap (λ (q : List ℕ). get_or q x 0) et ∙ front-past table z.t (λ i. 0) x 0 l;
      registers = zeros z.g 64 h;
    }

-- the log stands at the front of the buffer, as numbers
module _ (m : ℕ) (R : ℕ → ℕ → ℕ) (F : ℕ → ℕ) (few : m ≤ 16) (o : Ordered m R F) (n k : ℕ) (room : 128 * m ≤ k) (en : n ≡ length (global_log m R F)) where
  pub log_fits : n ≤ k
  log_fits = omega (arith, log-size m few R F, sum_most m 128 F o.short)

  pub log-front : (d d' : List ℕ) → length d ≡ k → d' ≡ fill (map block_id (global_log m R F)) d → map ref_in (take n d') ≡ global_log m R F
  log-front d d' ek ed =
      let en' : length (map block_id (global_log m R F)) ≡ n = length-map (global_log m R F) block_id ∙ sym en in
      ap (λ (l : List ℕ). map ref_in (take n l)) (ed ∙ fill-room (map block_id (global_log m R F)) d (omega (arith, log_fits, en')))
      ∙ ap (map ref_in) (take_at (map block_id (global_log m R F)) _ n en') ∙ log_ids m R F o

module _ (b : List ℕ) (z : Sizes) (ranks cites' good : List ℕ) (v full : List ℕ) (ef : count_in full ≡ whole_of (count_in v)) where
  log_is : global_log z.m (rank_in ranks) (count_in full) ≡ view_log (sheet_in b z) (rows_in ranks cites' good) (count_in v)
  unfolding view_log sheet_in sheet_from rows_in
  log_is = ap (global_log z.m (rank_in ranks)) ef

  pub contracts_hold : (c₀ t₀ : List ℕ) (l : List Ref) (counts table cells : List ℕ) → l ≡ global_log z.m (rank_in ranks) (count_in full)
      → Holds z c₀ t₀ (run_all (sheet_in b z) (empty_book (sheet_in b z)) (log_events (rows_in [] cites' good) l)) counts table cells
      → Holds z c₀ t₀ (contracts (sheet_in b z) (rows_in ranks cites' good) (count_in v)) counts table cells
  unfolding contracts
  contracts_hold c₀ t₀ l counts table cells el k =
      subst (λ (q : List Event). Holds z c₀ t₀ (run_all (sheet_in b z) (empty_book (sheet_in b z)) q) counts table cells)
      (events_any [] ranks cites' good l ∙ ap (log_events (rows_in ranks cites' good)) (el ∙ log_is)) k

  pub log-logged : (d d' : List ℕ) → d' ≡ fill (map block_id (global_log z.m (rank_in ranks) (count_in full))) d → d' ≡ fill
      (map block_id (view_log (sheet_in b z) (rows_in ranks cites' good) (count_in v))) d
  log-logged d d' e = e ∙ ap (λ (l : List Ref). fill (map block_id l) d) log_is

-- ---- all statuses

-- counts that stop at 2^32 - 1 say the same of a payment
payment-most : (f c p : ℕ) → p < most → payment_of (min f most) (min c most) p ≡ payment_of f c p
unfolding payment_of
payment-most f c p h =
    ap₂ (λ (a b : Bool). pick a (pick b paid pending) returned)
    (same (min f most) f 0 (λ e. omega arith) (λ e. omega arith)) (same (min c most) c p (λ e. omega arith) (λ e. omega arith))
  where
    same : (a b d : ℕ) → (a ≡ d → b ≡ d) → (b ≡ d → a ≡ d) → eqb a d ≡ eqb b d
    same a b d u w = go (eqb b d) refl
      where
        go : (t : Bool) → eqb b d ≡ t → eqb a d ≡ t
        go true e = eq-eqb a d (w (eqb-true b d e))
        go false e = ne_eqb a d (λ q. eqb-false b d e (u q))

code-status : (s : Status) → status_of (code_of s) ≡ s
unfolding status_of pick
code-status pending = refl
code-status paid = refl
code-status returned = refl

fail_le : (y : ℕ) (e : Event) → is_fail y e ≤ 1
unfolding is_fail
fail_le y e = omega (arith, given-le (eqb e.tx y) (flip e.good), flip-le e.good)

-- before: as lent; mid: after the contracts; after: the end
module _ (b : List ℕ) (z : Sizes) (R : Rows) (view : List ℕ) (small : z.m ≤ 16) (short : (j : ℕ) → j < z.m → count_in view j / 32 ≤ 128) (c₀ t₀ counts' mid cells counts : List ℕ)
    (rc : 2 * z.t ≤ length c₀) (rt : z.t ≤ length t₀)
    (held' : Holds z c₀ t₀ (contracts (sheet_in b z) R (count_in view)) counts' mid cells)
    (tallied : Counts z.t counts' (with_rows z.m R (count_in view) no_tally) counts) where
  abbrev v : View
  v = count_in view

  abbrev after : List ℕ
  after = pay_to (sheet_in b z) counts z.t mid

  -- no count is cut off: a view has at most 16 × 4127 places
  view_few : (w : Event → ℕ) → ((e : Event) → w e ≤ 1) → view_sum (sheet_in b z) R v w ≤ 66032
  unfolding view_sum
  view_few w h =
      omega (
        arith,
        sheet-m b z,
        sum_most (sheet_in b z).m 4127 (λ j. sum_to (v j) (λ p. w (event_at R j p)))
            (λ j l. omega (arith, short j (omega (arith, sheet-m b z)), sum_most (v j) 1 (λ p. w (event_at R j p)) (λ p u. h (event_at R j p)))),
      )

  cited_is : (y : ℕ) → min ((with_rows z.m R v no_tally).cited y) most ≡ cited (sheet_in b z) R v y
  unfolding cited view_sum sheet_in sheet_from
  cited_is y = omega (arith, view_few (is_cite y) (λ e. unfold is_cite in given-le _ _))

  failed_is : (y : ℕ) → min ((with_rows z.m R v no_tally).failed y) most ≡ failed (sheet_in b z) R v y
  unfolding failed view_sum sheet_in sheet_from
  failed_is y = omega (arith, view_few (is_fail y) (fail_le y))

  counts-cited : (x : ℕ) → x < z.t → get_or counts (2 * x) 0 ≡ cited (sheet_in b z) R v x
  counts-cited x l = tallied.cited x l ∙ cited_is x

  counts-failed : (x : ℕ) → x < z.t → get_or counts (2 * x + 1) 0 ≡ failed (sheet_in b z) R v x
  counts-failed x l = tallied.failed x l ∙ failed_is x

  cell_is : (x : ℕ) → x < z.t → get_or after x 0 ≡ code_of (status (sheet_in b z) R v x)
  unfolding status payment payment_of
  cell_is x l =
      pay_to_at (sheet_in b z) counts z.t x mid l (omega (arith, held'.size))
      ∙ ap₂ (λ (a c : ℕ). pick (is_contract (sheet_in b z) x) a c) (held'.status x l)
      (ap₂ (λ (f c : ℕ). code_of (pick (eqb f 0) (pick (eqb c (parts (sheet_in b z) x)) paid pending) returned)) (counts-failed x l) (counts-cited x l))
      ∙ codes (is_contract (sheet_in b z) x) _ _
      ∙ ap code_of (sym (pick_true _ _ _ (lt-ltb x (tx_count (sheet_in b z)) (omega (arith, sheet-count b z)))))
    where
      codes : (u : Bool) (p q : Status) → pick u (code_of p) (code_of q) ≡ code_of (pick u p q)
      codes true p q = unfold pick in refl
      codes false p q = unfold pick in refl

  one : (x : ℕ) → Dec (x < z.t) → status_in z after x ≡ status (sheet_in b z) R v x
  unfolding status_in
  one x (yes l) = pick_true _ _ _ (lt-ltb x z.t l) ∙ ap status_of (cell_is x l) ∙ code-status _
  one x (no l) = pick-false _ _ _ (le-ltb x z.t (omega arith)) ∙ sym (unfold status in pick-false _ _ _ (le-ltb x (tx_count (sheet_in b z)) (omega (arith, sheet-count b z))))

  tally_is : (i : ℕ) → i < 2 * z.t → get_or counts i 0 ≡ tally_at (sheet_in b z) R v i
  unfolding tally_at
  tally_is i l = go (eqb (i % 2) 0) refl
    where
      go : (u : Bool) → eqb (i % 2) 0 ≡ u → get_or counts i 0 ≡ pick u (cited (sheet_in b z) R v (i / 2)) (failed (sheet_in b z) R v (i / 2))
      go true e =
          let q : i ≡ 2 * (i / 2) = omega (arith, eqb-true (i % 2) 0 e) in
          ap (λ (n : ℕ). get_or counts n 0) q ∙ counts-cited (i / 2) (omega arith) ∙ sym (pick_true _ _ _ refl)
      go false e =
          let w : i % 2 ≢ 0 = eqb-false (i % 2) 0 e in
          let q : i ≡ 2 * (i / 2) + 1 = omega (arith, w) in
          ap (λ (n : ℕ). get_or counts n 0) q ∙ counts-failed (i / 2) (omega arith) ∙ sym (pick-false _ _ _ refl)

  settled-all : (first order : List ℕ) → order ≡ fill (map block_id (view_log (sheet_in b z) R v)) first
      → Settled z (sheet_in b z) R v (buffers c₀ t₀ first) (buffers counts after order)
  settled-all first order l = record {
    statuses = fun_ext (λ x. one x (dec_lt x z.t));
    tabled = front_is t₀ after z.t _ rt (pay_to-length (sheet_in b z) counts z.t mid ∙ held'.size) cell_is
        (λ i u. pay_to-past (sheet_in b z) counts z.t i mid u ∙ held'.past i u);
    counted = front_is c₀ counts (2 * z.t) _ rc (tallied.size ∙ held'.counted.size) tally_is (λ i u. tallied.past i u ∙ held'.counted.past i u);
    logged = l;
  }

-- the whole of it: contracts, then the counts cleared and taken anew over the view, then payments
pub settled_so : (b : List ℕ) (z : Sizes) (ranks cites' good view : List ℕ) → z.m ≤ 16 → ((j : ℕ) → j < z.m → count_in view j / 32 ≤ 128) → (c₀ t₀ first counts' mid cells : List ℕ)
    → 2 * z.t ≤ length c₀ → z.t ≤ length t₀
    → Holds z c₀ t₀ (contracts (sheet_in b z) (rows_in ranks cites' good) (count_in view)) counts' mid cells
    → (fresh counts table order : List ℕ) → fresh ≡ written counts' 0 (2 * z.t) (λ i. 0) → counts ≡ count_rows z.t cites' good view z.m fresh
    → table ≡ pay_to (sheet_in b z) counts z.t mid → order ≡ fill (map block_id (view_log (sheet_in b z) (rows_in ranks cites' good) (count_in view))) first
    → (Settled z (sheet_in b z) (rows_in ranks cites' good) (count_in view) (buffers c₀ t₀ first) (buffers counts table order))
    × (take z.g cells ≡ (contracts (sheet_in b z) (rows_in ranks cites' good) (count_in view)).registers)
settled_so b z ranks cites' good view small short c₀ t₀ first counts' mid cells rc rt held' fresh counts table order ef ec et eo =
    let room : 2 * z.t ≤ length counts' = omega (arith, held'.counted.size) in
    let tallied : Counts z.t counts' (with_rows z.m (rows_in ranks cites' good) (count_in view) no_tally) counts =
    subst (Counts z.t counts' (with_rows z.m (rows_in ranks cites' good) (count_in view) no_tally)) (sym (ec ∙ ap (count_rows z.t cites' good view z.m) ef))
    (counts_rows ranks cites' good z.t counts' view z.m no_tally (written counts' 0 (2 * z.t) (λ i. 0))
    (omega (arith, length-written counts' 0 (2 * z.t) (λ i. 0))) (cleared z.t counts' room)) in (
      subst (λ (l : List ℕ). Settled z (sheet_in b z) (rows_in ranks cites' good) (count_in view) (buffers c₀ t₀ first) (buffers counts l order)) (sym et)
          (settled-all b z (rows_in ranks cites' good) view small short c₀ t₀ counts' mid cells counts rc rt held' tallied first order eo),
      held'.registers,
    )
