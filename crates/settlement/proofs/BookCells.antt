-- The contracts' fold on the cells that hold its state.
-- Assumes nothing.
use Prim.Native.Nat.{◌%◌, ◌*◌, ◌+◌, ◌/◌, ◌<◌, ◌≤◌, ℕ}
use borrow.Author.Tests.{eq-eqb, eqb-false, eqb-true, ne_eqb}
use lib.Dec.{eqb}
use lib.ListN.{get_or, length, length-set, set, take}
use lib.Seq.{get_or-set_other, get_or-set_same, take-suc}
use Rattle.std.proofs.lemmas.List.{take_all}
use mathlib.Core.Bool.{Bool, false, true}
use mathlib.Core.List.{List, [], ◌++◌, ◌∷◌, append-nil, foldl, foldl-append, map}
use mathlib.Core.Path.{◌∙◌, ◌≡◌, ap, ap₂, refl, subst, sym}
use native.Mathlib.Numerals.{add-one}
use native.Mathlib.Omega.{arith}
use Rattle.ordering.specs.Order.{Ref}
use Rattle.ordering.specs.Table.{ref_in}
use Rattle.settlement.proofs.CountCells.{counts_ext, counts-one, event_tx}
use Rattle.settlement.proofs.ViewOnly.{log_events-append}
use Rattle.settlement.specs.Cells.{rows_in}
use Rattle.settlement.specs.Books.{Book, Status, booked, counted, paid, returned, run_all, settled, step}
use Rattle.settlement.specs.Inner.{Counts, Holds, count_one, event_of, most, settled_if}
use Rattle.settlement.specs.Tables.{code_of}
use Rattle.settlement.specs.View.{Event, Rows, block_events, event_at, log_events}
use Rattle.sheets.specs.Operations.{Leaves, Done, operated}
use Rattle.sheets.specs.Parts.{is_contract, parts}
use Rattle.sheets.specs.Sheet.{Sheet, sheet_in}
use Rattle.sums.proofs.SeqLaws.{map-append}
use Rattle.sums.proofs.TestLaws.{passed, pick-false, pick_true, put_add, took}
use Rattle.sums.specs.Seq.{tabulate}
use Rattle.sums.specs.Test.{both, flip, put}
use Rattle.sheets.specs.declared.operations.Ran.{Ran}
use Rattle.sheets.specs.declared.sheet.Sizes.{Sizes}

-- ---- one contract whose citation was counted

module _ (z : Sizes) (c₀ t₀ : List ℕ) (s : Book) (counts table cells : List ℕ) (x : ℕ) (h : x < z.t) (k : Holds z c₀ t₀ s counts table cells) where
  -- a status and registers that are marked
  marked : (v : Status) (r' r : List ℕ) → z.t ≤ length table → take z.g r' ≡ r
      → Holds z c₀ t₀ (record { registers = r; seen = s.seen; spoiled = s.spoiled; status = put s.status x v }) counts (set table x (code_of v)) r'
  marked v r' r room q = record {
    counted = record { cited = k.counted.cited; failed = k.counted.failed; size = k.counted.size; past = k.counted.past };
    status = λ y l. go y l (eqb y x) refl;
    size = length-set table x (code_of v) ∙ k.size;
    past = λ y l. get_or-set_other table x y (code_of v) 0 (λ (w : y ≡ x). omega (arith, w)) ∙ k.past y l;
    registers = q;
  }
    where
      go : (y : ℕ) → y < z.t → (b : Bool) → eqb y x ≡ b → get_or (set table x (code_of v)) y 0 ≡ code_of (put s.status x v y)
      go y l true e =
          let q' : y ≡ x = eqb-true y x e in
          ap (λ (n : ℕ). get_or (set table x (code_of v)) n 0) q' ∙ get_or-set_same table x (code_of v) 0 (omega arith) ∙ ap code_of (sym (pick_true _ _ _ e))
      go y l false e = get_or-set_other table x y (code_of v) 0 (eqb-false y x e) ∙ k.status y l ∙ ap code_of (sym (pick-false _ _ _ e))

  module _ (S : Sheet) (n p : ℕ) (ec : n ≡ get_or counts (2 * x) 0) (ep : p ≡ parts S x) (small : p < most) where
    pub wait-for : (n ≡ p → ⊥) → Holds z c₀ t₀ (settled_if S s x) counts table cells
    unfolding settled_if
    wait-for ne =
        subst (λ (u : Book). Holds z c₀ t₀ u counts table cells)
        (sym (pick-false _ _ _ (ne_eqb (s.seen x) (parts S x) (λ (e : s.seen x ≡ parts S x). ne (omega (arith, k.counted.cited x h)))))) k

    module _ (full : n ≡ p) where
      all_seen : settled_if S s x ≡ settled S s x
      unfolding settled_if
      all_seen = pick_true _ _ _ (eq-eqb (s.seen x) (parts S x) (omega (arith, k.counted.cited x h)))

      -- not both: returned
      pub not-both : both (eqb (s.spoiled x) 0) (operated S x s.registers).passes ≡ false → z.t ≤ length table → Holds z c₀ t₀ (settled_if S s x) counts (set table x 2) cells
      unfolding settled
      not-both e room =
          subst (λ (u : Book). Holds z c₀ t₀ u counts (set table x 2) cells)
          (sym (all_seen ∙ pick-false _ _ _ e))
          (marked returned cells s.registers room k.registers)

      module _ (f : ℕ) (ef : f ≡ get_or counts (2 * x + 1) 0) where
        pub spoilt : (f ≡ 0 → ⊥) → z.t ≤ length table → Holds z c₀ t₀ (settled_if S s x) counts (set table x 2) cells
        spoilt ne room = not-both (passed _ (ne_eqb (s.spoiled x) 0 (λ (e : s.spoiled x ≡ 0). ne (omega (arith, k.counted.failed x h)))) refl) room

        clean : f ≡ 0 → eqb (s.spoiled x) 0 ≡ true
        clean e = eq-eqb (s.spoiled x) 0 (omega (arith, k.counted.failed x h))

        pub failed-run : f ≡ 0 → (operated S x s.registers).passes ≡ false → z.t ≤ length table → Holds z c₀ t₀ (settled_if S s x) counts (set table x 2) cells
        failed-run e q room = not-both (took _ (clean e) q) room

        pub passed-run : f ≡ 0 → (operated S x s.registers).passes ≡ true → (cells' : List ℕ) → take z.g cells' ≡ (operated S x s.registers).registers → z.t ≤ length table
            → Holds z c₀ t₀ (settled_if S s x) counts (set table x 1) cells'
        unfolding settled
        passed-run e q cells' a room =
            subst (λ (u : Book). Holds z c₀ t₀ u counts (set table x 1) cells')
            (sym (all_seen ∙ pick_true _ _ _ (took _ (clean e) q)))
            (marked paid cells' (operated S x s.registers).registers room a)

-- what a run of x's operations says of the book
module _ (b : List ℕ) (z : Sizes) (c₀ t₀ : List ℕ) (s : Book) (counts table cells : List ℕ) (x : ℕ) (k : Holds z c₀ t₀ s counts table cells)
    (r : Ran) (e : Leaves z.g r (operated (sheet_in b z) x (take z.g cells))) where
  same_run : operated (sheet_in b z) x (take z.g cells) ≡ operated (sheet_in b z) x s.registers
  same_run = ap (operated (sheet_in b z) x) k.registers

  pub run_passes : (u : Bool) → r.passes ≡ u → (operated (sheet_in b z) x s.registers).passes ≡ u
  run_passes u h = sym (ap (λ (d : Done). d.passes) same_run) ∙ sym e.passes ∙ h

  pub run_after : take z.g r.registers ≡ (operated (sheet_in b z) x s.registers).registers
  run_after = e.registers ∙ ap (λ (d : Done). d.registers) same_run

-- ---- one citation

module _ (z : Sizes) (c₀ t₀ : List ℕ) (s : Book) (counts table cells : List ℕ) (k : Holds z c₀ t₀ s counts table cells) (x : ℕ) (g : Bool) (h : x < z.t) where
  pub counted_holds : (counts' : List ℕ) → counts' ≡ count_one counts x (flip g) → 2 * z.t ≤ length counts → Holds z c₀ t₀ (counted s (event_of x g)) counts' table cells
  unfolding counted
  counted_holds counts' e room = record {
    counted =
        subst (Counts z.t c₀ _) (sym e)
        (counts_ext z.t c₀ _ _ _ (λ y l. sym (put_add s.seen x y 1)) (λ y l. sym (put_add s.spoiled x y (flip g)))
        (counts-one z.t x (flip g) c₀ (record { cited = s.seen; failed = s.spoiled }) counts h room
        (record { cited = k.counted.cited; failed = k.counted.failed; size = k.counted.size; past = k.counted.past })));
    status = k.status;
    size = k.size;
    past = k.past;
    registers = k.registers;
  }

-- the step of the fold at a place, by what stands there
module _ (b : List ℕ) (z : Sizes) (cites good : List ℕ) (j p : ℕ) (s : Book) (x : ℕ) (ex : x ≡ get_or cites (j * 4096 + p) 65535) (u : Bool) (eu : u ≡ is_contract (sheet_in b z) x) where
  abbrev here : Event
  here = event_at (rows_in [] cites good) j p

  is_here : is_contract (sheet_in b z) here.tx ≡ u
  is_here = ap (is_contract (sheet_in b z)) (event_tx [] cites good j p x ex) ∙ sym eu

  step-none : u ≡ false → step (sheet_in b z) s here ≡ s
  unfolding step
  step-none f = pick-false _ _ _ (is_here ∙ f)

  step-some : (g : Bool) → g ≡ eqb (get_or good (j * 4096 + p) 0) 1 → u ≡ true → settled_if (sheet_in b z) (counted s (event_of x g)) x ≡ step (sheet_in b z) s here
  unfolding step booked settled_if event_at rows_in
  step-some g eg t =
      ap₂ (λ (n : ℕ) (f : Bool). settled_if (sheet_in b z) (counted s (event_of n f)) n) ex eg ∙ sym (pick_true _ _ _ (is_here ∙ t))

  module _ (c₀ t₀ counts table cells : List ℕ) where
    pub skip-holds : u ≡ false → Holds z c₀ t₀ s counts table cells → Holds z c₀ t₀ (step (sheet_in b z) s here) counts table cells
    skip-holds f k = subst (λ (w : Book). Holds z c₀ t₀ w counts table cells) (sym (step-none f)) k

    pub step-holds : (g : Bool) → g ≡ eqb (get_or good (j * 4096 + p) 0) 1 → u ≡ true
        → Holds z c₀ t₀ (settled_if (sheet_in b z) (counted s (event_of x g)) x) counts table cells → Holds z c₀ t₀ (step (sheet_in b z) s here) counts table cells
    step-holds g eg t k = subst (λ (w : Book). Holds z c₀ t₀ w counts table cells) (step-some g eg t) k

-- ---- a block and a log

pub run_none : (S : Sheet) (s : Book) (f : ℕ → Event) → run_all S s (tabulate 0 f) ≡ s
unfolding run_all tabulate
run_none S s f = refl

pub run_more : (S : Sheet) (s : Book) (f : ℕ → Event) (n : ℕ) → step S (run_all S s (tabulate n f)) (f n) ≡ run_all S s (tabulate (n + 1) f)
unfolding run_all
run_more S s f n = sym (ap (λ (k : ℕ). foldl (step S) s (tabulate k f)) (add-one n) ∙ (unfold tabulate in foldl-append (step S) s (tabulate n f) (f n ∷ [])))

log_events_snoc : (R : Rows) (l : List Ref) (b : Ref) → log_events R (l ++ (b ∷ [])) ≡ log_events R l ++ block_events R b
unfolding log_events
log_events_snoc R l b = log_events-append R l (b ∷ []) ∙ ap (λ (m : List Event). log_events R l ++ m) (append-nil _)

pub log-none : (S : Sheet) (Q : Rows) (s : Book) (l : List ℕ) → run_all S s (log_events Q (map ref_in (take 0 l))) ≡ s
unfolding run_all log_events
log-none S Q s l = refl

pub log-more : (S : Sheet) (Q : Rows) (s : Book) (l : List ℕ) (i : ℕ) → i < length l
    → run_all S (run_all S s (log_events Q (map ref_in (take i l)))) (block_events Q (ref_in (get_or l i 0))) ≡ run_all S s (log_events Q (map ref_in (take (i + 1) l)))
unfolding run_all
log-more S Q s l i h =
    let more : map ref_in (take (i + 1) l) ≡ map ref_in (take i l) ++ (ref_in (get_or l i 0) ∷ []) =
    ap (map ref_in) (ap (λ (k : ℕ). take k l) (add-one i) ∙ take-suc l i 0 h) ∙ map-append ref_in (take i l) (get_or l i 0 ∷ []) in
    sym (ap (λ (m : List Ref). foldl (step S) s (log_events Q m)) more
    ∙ ap (foldl (step S) s) (log_events_snoc Q (map ref_in (take i l)) (ref_in (get_or l i 0))) ∙ foldl-append (step S) s (log_events Q (map ref_in (take i l)))
    (block_events Q (ref_in (get_or l i 0))))

-- the same on cells
module _ (z : Sizes) (c₀ t₀ : List ℕ) (S : Sheet) (s : Book) (c t r : List ℕ) where
  pub block_none : (f : ℕ → Event) → Holds z c₀ t₀ s c t r → Holds z c₀ t₀ (run_all S s (tabulate 0 f)) c t r
  block_none f k = subst (λ (w : Book). Holds z c₀ t₀ w c t r) (sym (run_none S s f)) k

  pub block_more : (f : ℕ → Event) (n : ℕ) → Holds z c₀ t₀ (step S (run_all S s (tabulate n f)) (f n)) c t r → Holds z c₀ t₀ (run_all S s (tabulate (n + 1) f)) c t r
  block_more f n k = subst (λ (w : Book). Holds z c₀ t₀ w c t r) (run_more S s f n) k

  pub block_end : (Q : Rows) (b n : ℕ) → n ≤ 32 → 32 ≤ n → Holds z c₀ t₀ (run_all S s (tabulate n (λ q. event_at Q (b / 128) (b % 128 * 32 + q)))) c t r
      → Holds z c₀ t₀ (run_all S s (block_events Q (ref_in b))) c t r
  unfolding block_events
  block_end Q b n l u k = subst (λ (m : ℕ). Holds z c₀ t₀ (run_all S s (tabulate m (λ q. event_at Q (b / 128) (b % 128 * 32 + q)))) c t r) (omega arith) k

  pub log_start : (Q : Rows) (l : List ℕ) → Holds z c₀ t₀ s c t r → Holds z c₀ t₀ (run_all S s (log_events Q (map ref_in (take 0 l)))) c t r
  log_start Q l k = subst (λ (w : Book). Holds z c₀ t₀ w c t r) (sym (log-none S Q s l)) k

  pub log_turn : (Q : Rows) (l : List ℕ) (i : ℕ) → i < length l → Holds z c₀ t₀ (run_all S (run_all S s (log_events Q (map ref_in (take i l)))) (block_events Q (ref_in (get_or l i 0)))) c t r
      → Holds z c₀ t₀ (run_all S s (log_events Q (map ref_in (take (i + 1) l)))) c t r
  log_turn Q l i h k = subst (λ (w : Book). Holds z c₀ t₀ w c t r) (log-more S Q s l i h) k

  pub log_end : (Q : Rows) (l : List ℕ) (i : ℕ) → length l ≤ i → Holds z c₀ t₀ (run_all S s (log_events Q (map ref_in (take i l)))) c t r
      → Holds z c₀ t₀ (run_all S s (log_events Q (map ref_in l))) c t r
  log_end Q l i h k = subst (λ (m : List ℕ). Holds z c₀ t₀ (run_all S s (log_events Q (map ref_in m))) c t r) (take_all i l h) k

-- the citations of a log do not hang on ranks
pub events_any : (ranks ranks' cites good : List ℕ) (l : List Ref) → log_events (rows_in ranks cites good) l ≡ log_events (rows_in ranks' cites good) l
unfolding log_events block_events event_at rows_in
events_any ranks ranks' cites good [] = refl
events_any ranks ranks' cites good (b ∷ l) = ap (λ (e : List Event). block_events (rows_in ranks cites good) b ++ e) (events_any ranks ranks' cites good l)
