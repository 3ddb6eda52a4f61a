-- The answer of a call for a reading: refusal 3, then 16 buffer by buffer.
-- Assumes nothing.
use Rattle.std.proofs.Common.{Ok, Err}
use Prim.Native.Nat.{◌*◌, ◌+◌, ◌≤◌, ℕ}
use borrow.Author.Tests.{eqb-true, le-ltb, ltb-false}
use lib.Dec.{ltb}
use lib.ListN.{drop, length}
use mathlib.Core.Bool.{Bool, false, not, true}
use mathlib.Core.List.{List, [], ◌++◌, ◌∷◌}
use mathlib.Core.Path.{◌∙◌, ◌≡◌, ap, refl, sym}
use native.Mathlib.Omega.{arith}
use Rattle.admission.specs.Replies.{reply_to}
use Rattle.frames.proofs.HeaderLaws.{HeaderBounds, header_bounds}
use Rattle.frames.proofs.StepLaws.{due_header_ok}
use Rattle.plain.proofs.AnswerLaws.{lent_enough, refuse_false, refuse_pass, refuse_true, then_accepted, then_assoc, then_go, then_pass, then_stop}
use Rattle.plain.specs.Answer.{Answer, ◌then◌, accepted, refuse, refused}
use Rattle.plain.specs.Plain.{lent_answer}
use Rattle.plain.specs.Report.{Query, Report, accounts, fill_needs, log, read_answer, registers, settle_needs, settlements, share, work_needs}
use Rattle.readings.specs.Inner.{settling_answer}
use Rattle.readings.specs.Reading.{settle_lengths, work_lengths}
use Rattle.settlement.specs.Tables.{Buffers}
use Rattle.sheets.proofs.SheetCells.{sheet-a, sheet-count, sheet-m}
use Rattle.state.specs.Lengths.{least_lengths, needs_list}
use Rattle.state.specs.State.{Kept, complete, sheet_of, sizes_of}
use Rattle.refusals.specs.Refusals.{Checked}
use Rattle.refusals.specs.declared.Refusal.{Refusal}
use Rattle.refusals.specs.declared.Refusal.TheVariants.{BufferShort}
use Rattle.state.specs.declared.ledger.Ledger.{Ledger}
use Rattle.state.specs.declared.lengths.Lengths.{Lengths}

-- ---- buffers lent before others

pub lent-append : (needs lent needs' lent' : List ℕ) → length needs ≡ length lent → (lent_answer needs lent then lent_answer needs' lent') ≡ lent_answer (needs ++ needs') (lent ++ lent')
unfolding lent_answer ◌then◌
lent-append [] [] needs' lent' e = refl
lent-append [] (k ∷ lent) needs' lent' e = absurd (omega arith)
lent-append (n ∷ needs) [] needs' lent' e = absurd (omega arith)
lent-append (n ∷ needs) (k ∷ lent) needs' lent' e =
    then_assoc (refuse (ltb k n) 16 n) (lent_answer needs lent) (lent_answer needs' lent')
    ∙ ap (λ (a : Answer). refuse (ltb k n) 16 n then a) (lent-append needs lent needs' lent' (omega arith))

-- a buffer that is as long as it must be is passed over
lent_same : (n : ℕ) (needs lent : List ℕ) → lent_answer (n ∷ needs) (n ∷ lent) ≡ lent_answer needs lent
unfolding lent_answer
lent_same n needs lent = then_go _ _ _ (refuse_false _ 16 n (le-ltb n n (omega arith))) refl

-- ---- refusal 3

module _ (l : Ledger) (b : Bool) (e : b ≡ complete l) where
  pub complete-yes : b ≡ true → accepted ≡ refuse (not (complete l)) 3 0
  complete-yes t = sym (refuse_false _ 3 0 (ap not (sym e ∙ t)))

  pub complete_no : b ≡ false → refused 3 0 ≡ refuse (not (complete l)) 3 0
  complete_no t = sym (refuse_true _ 3 0 (ap not (sym e ∙ t)))

-- past it the header's bounds hold
pub bounds : (l : Ledger) → refuse (not (complete l)) 3 0 ≡ accepted → HeaderBounds l.loading.m l.loading.a l.loading.g l.loading.t
unfolding complete
bounds l e = header_bounds _ _ _ _ (due_header_ok l.loading 4 (omega arith) (eqb-true _ 4 (yes (complete l) (refuse_pass _ 3 0 e))))
  where
    yes : (b : Bool) → not b ≡ false → b ≡ true
    yes true q = refl
    yes false q = sym q

-- ---- one check after another, as `?` has it

unfoldable pub both : Checked → Checked → Checked
both (Ok _) b = b
both (Err r) b = Err r

pub both_said : {x : Answer} (a b : Checked) → reply_to b ≡ x → reply_to (both a b) ≡ (reply_to a then x)
unfolding both ◌then◌
both_said (Ok _) b e = e
both_said (Err r) b e = refl

pub both_first : {a : Checked} {r : Refusal} (b : Checked) → a ≡ Err r → both a b ≡ Err r
unfolding both
both_first b e = rw e refl

module _ {a b : Checked} where
  pub both_pass : a ≡ Ok tt → b ≡ Ok tt → both a b ≡ Ok tt
  unfolding both
  both_pass e f = rw e f

  pub both_second : {r : Refusal} → a ≡ Ok tt → b ≡ Err r → both a b ≡ Err r
  unfolding both
  both_second e f = rw e f

-- a check that was not come to
unfoldable room_by : ℕ → Bool → Checked
room_by n true = Err (BufferShort n)
room_by n false = Ok tt

pub unmade : ℕ → ℕ → Checked
unmade n k = room_by n (ltb k n)

pub unmade_said : (n k : ℕ) → reply_to (unmade n k) ≡ refuse (ltb k n) 16 n
unfolding room_by refuse unmade
unmade_said n k = by_test (ltb k n)
  where
    by_test : (t : Bool) → reply_to (room_by n t) ≡ refuse t 16 n
    by_test true = refl
    by_test false = refl

-- where it passed, so did all before, and the buffer is long enough
pub next_passed : (a b : Answer) (n k : ℕ) → b ≡ (a then refuse (ltb k n) 16 n) → b ≡ accepted → (a ≡ accepted) × (n ≤ k)
next_passed a b n k e q =
    let p = then_pass a _ (sym e ∙ q) in
    (p.0, ltb-false k n (refuse_pass (ltb k n) 16 n p.1))

-- ---- the buffers of a settlement

module _ (l : Ledger) (K : Kept) (W : Buffers) where
  -- the formulas are those of the sheet
  needs_are : settle_needs (sheet_of l K)
      ≡ (8 * l.loading.a + 100 * l.loading.t) ∷ (128 * l.loading.m) ∷ (4096 * l.loading.m) ∷ (4096 * l.loading.m) ∷ (2 * l.loading.t) ∷ l.loading.t ∷ (128 * l.loading.m) ∷ []
  unfolding settle_needs
  needs_are = rw (sheet-m K.sheet (sizes_of l), sheet-count K.sheet (sizes_of l), sheet-a K.sheet (sizes_of l)) refl

  -- the lengths lent, the cuts as long as they must be
  abbrev lengths : Lengths → Lengths
  lengths least = record {
    sheet = length K.sheet;
    ranks = length K.ranks;
    cuts = least.cuts;
    cites = length K.cites;
    good = length K.good;
    counts = length W.counts;
    table = length W.table;
    order = length W.order;
  }

  pub settling_no : (b : Bool) → b ≡ complete l → b ≡ false → refused 3 0 ≡ settling_answer l K W
  unfolding settling_answer
  settling_no b e t = sym (then_stop _ _ 3 0 (sym (complete_no l b e t)))

  pub settling_yes : (b : Bool) → b ≡ complete l → b ≡ true → (least : Lengths) → least ≡ least_lengths l → (a : Answer) → a ≡ lent_answer (needs_list least) (needs_list (lengths least)) → a ≡ settling_answer l K W
  unfolding settling_answer lent_answer
  settling_yes b e t least el a ea =
      ea ∙ ap (λ (n : Lengths). lent_answer (needs_list n) (needs_list (lengths n))) el
      ∙ ap (λ (z : Answer). refuse (ltb (length K.sheet) (least_lengths l).sheet) 16 (least_lengths l).sheet then refuse (ltb (length K.ranks) (least_lengths l).ranks) 16 (least_lengths l).ranks then z)
      (lent_same (least_lengths l).cuts (drop 3 (needs_list (least_lengths l))) (drop 2 (settle_lengths K W)))
      ∙ sym (then_go _ _ _ (sym (complete-yes l b e t)) (ap (λ (n : List ℕ). lent_answer n (settle_lengths K W)) needs_are))

  -- what the settlement asks of the working buffers
  pub record Room : Type 0 where
    pub header : HeaderBounds l.loading.m l.loading.a l.loading.g l.loading.t
    pub counts : 2 * l.loading.t ≤ length W.counts
    pub table : l.loading.t ≤ length W.table
    pub order : 128 * l.loading.m ≤ length W.order

  pub room : settling_answer l K W ≡ accepted → Room
  unfolding settling_answer
  room e =
      let p = then_pass _ _ e in
      let e1 = lent_enough _ _ _ _ (ap (λ (n : List ℕ). lent_answer n (settle_lengths K W)) (sym needs_are) ∙ p.1) in
      let e2 = lent_enough _ _ _ _ e1.1 in
      let e3 = lent_enough _ _ _ _ e2.1 in
      let e4 = lent_enough _ _ _ _ e3.1 in
      let e5 = lent_enough _ _ _ _ e4.1 in
      let e6 = lent_enough _ _ _ _ e5.1 in
      let e7 = lent_enough _ _ _ _ e6.1 in
      record { header = bounds l p.0; counts = e5.0; table = e6.0; order = e7.0 }

-- ---- the whole answer: the buffers lent before the lists, then the lists

module _ (l : Ledger) (K : Kept) (W : Buffers) where
  sizes_match : (q : Query) → length (work_needs (sheet_of l K) q) ≡ length (work_lengths q K W)
  unfolding work_needs settle_needs
  sizes_match accounts = refl
  sizes_match registers = refl
  sizes_match settlements = refl
  sizes_match share = refl
  sizes_match log = refl

  -- the answer up to the lists
  abbrev work_answer : Query → Answer
  work_answer q = refuse (not (complete l)) 3 0 then lent_answer (work_needs (sheet_of l K) q) (work_lengths q K W)

  whole-answer : (q : Query) (r : Report) (needs lent : List ℕ) → fill_needs (sheet_of l K) r q ≡ needs
      → (work_answer q then lent_answer needs lent) ≡ read_answer (complete l) (sheet_of l K) r q (work_lengths q K W ++ lent)
  unfolding read_answer
  whole-answer q r needs lent e =
      then_assoc (refuse (not (complete l)) 3 0) _ _
      ∙ ap (λ (a : Answer). refuse (not (complete l)) 3 0 then a) (lent-append (work_needs (sheet_of l K) q) (work_lengths q K W) needs lent (sizes_match q) ∙ rw (sym e) refl)

  module _ (q : Query) (r : Report) (a : Answer) (ea : a ≡ work_answer q) where
    pub answer-none : fill_needs (sheet_of l K) r q ≡ [] → a ≡ read_answer (complete l) (sheet_of l K) r q (work_lengths q K W ++ [])
    unfolding lent_answer
    answer-none e = ea ∙ sym (then_accepted (work_answer q)) ∙ whole-answer q r [] [] e

    module _ (n k : ℕ) (b : Answer) (eb : b ≡ (a then refuse (ltb k n) 16 n)) where
      pub answer-one : fill_needs (sheet_of l K) r q ≡ n ∷ [] → b ≡ read_answer (complete l) (sheet_of l K) r q (work_lengths q K W ++ (k ∷ []))
      unfolding lent_answer
      answer-one e = eb ∙ ap (λ (x : Answer). x then refuse (ltb k n) 16 n) ea ∙ ap (λ (x : Answer). work_answer q then x) (sym (then_accepted _)) ∙ whole-answer q r (n ∷ []) (k ∷ []) e

      pub answer-two : (n' k' : ℕ) (c : Answer) → c ≡ (b then refuse (ltb k' n') 16 n') → fill_needs (sheet_of l K) r q ≡ n ∷ n' ∷ []
          → c ≡ read_answer (complete l) (sheet_of l K) r q (work_lengths q K W ++ (k ∷ k' ∷ []))
      unfolding lent_answer
      answer-two n' k' c ec e =
          ec ∙ ap (λ (x : Answer). x then refuse (ltb k' n') 16 n') (eb ∙ ap (λ (x : Answer). x then refuse (ltb k n) 16 n) ea) ∙ then_assoc (work_answer q) _ _
          ∙ ap (λ (x : Answer). work_answer q then (refuse (ltb k n) 16 n then x)) (sym (then_accepted _)) ∙ whole-answer q r (n ∷ n' ∷ []) (k ∷ k' ∷ []) e
