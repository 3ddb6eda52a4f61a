-- A sheet that was loaded to its end is what the frames said and is proper, and no block is there yet.
-- Assumes nothing.
use Rattle.std.proofs.Common.{Ok, Err, Some, None}
use Prim.Native.Nat.{◌<◌, ◌≤◌, ℕ}
use borrow.Author.Tests.{eq-eqb, eqb-true, lt-ltb, ne_eqb}
use lib.Dec.{eqb, ltb}
use lib.ListN.{length, length-take, replicate}
use mathlib.Core.Bool.{Bool, false, true}
use mathlib.Core.List.{List}
use mathlib.Core.Logic.{◌⊎◌, inl, inr}
use mathlib.Core.Path.{◌∙◌, ◌≡◌, ap, refl, subst, sym}
use native.Mathlib.Omega.{arith}
use Rattle.demand.proofs.Fronts.{sheet-front}
use Rattle.demand.proofs.Replies.{early_same}
use Rattle.demand.specs.Chain.{Opening, SameFront, begin, early, few, load, moved, sheet_after, sheet_with}
use Rattle.frames.proofs.StepLaws.{due_four, due_late, judged-kind, took_judged}
use Rattle.frames.specs.Frame.{body_at, body_of, frame_at}
use Rattle.frames.specs.Step.{header_loaded, kind_due, step_at, taken_step}
use Rattle.frames.specs.declared.step.Loading.{Loading}
use Rattle.frames.specs.Step.{Step}
use Rattle.frames_load.proofs.ProperLaws.{load-proper, load-room, loaded_proper, so_far_complete}
use Rattle.frames_load.specs.Load.{Adds, LoadStep, Loads, load_answer, load_cells, loaded_cells, room, sheet_so_far, with_balances, with_transaction}
use Rattle.frames_load.specs.Proper.{ProperSoFar, fresh}
use Rattle.refusals.specs.declared.Refusal.{Refusal}
use Rattle.sheets.proofs.ProperLaws.{ProperSheet, proper-sheet}
use Rattle.sheets.specs.Sheet.{Sheet, sheet_from, sheet_in}
use Rattle.state.specs.Lengths.{least_lengths}
use Rattle.state.specs.Loading.{LoadsSheet, after_step}
use Rattle.state.specs.State.{Kept, complete, fresh_ledger, sheet_of}
use Rattle.state.specs.declared.ledger.Ledger.{Ledger}
use Rattle.state.specs.declared.load.Loaded as taken
use Rattle.sums.proofs.TestLaws.{by-pick, passed, peel, pick-false, took}
use Rattle.sums.specs.Test.{pick}

abbrev pub Untaken : Step → Type 0
Untaken t = (n : Loading) (e : ℕ) → t ≡ taken_step n e → ⊥

pub refused_untaken : (r : Refusal) → Untaken (Err r)
refused_untaken r n e q = let z : ◌≡◌ {A = ℕ} 0 1 = cc in omega arith

pub end_untaken : Untaken (Ok None)
end_untaken n e q = let z : ◌≡◌ {A = ℕ} 0 1 = cc in omega arith

as_they_were : (s : Loading) (b cells : List ℕ) (t : Step) → Untaken t → loaded_cells s b cells t ≡ cells
as_they_were s b cells (Ok (Some (n, e))) h = absurd (h n e refl)
as_they_were s b cells (Err r) h = refl
as_they_were s b cells (Ok None) h = refl

-- a call that takes no frame leaves the cells as they were
untaken_cells : (run : List ℕ) (at : ℕ) (s : Loading) (before after : List ℕ) (t : Step) → Loads run at s before after t → Untaken t → after ≡ before
unfolding load_answer load_cells
untaken_cells run at s before after t L h =
    L.cells
    ∙ by-pick (λ (c : List ℕ). c ≡ before) (ltb (length before) (room s)) (λ e. refl)
    (λ e. as_they_were s (body_of (frame_at run at) run) before (step_at run at s) (subst Untaken (L.answers ∙ pick-false _ _ _ e) h))

-- where a frame was taken the step is the frame's own
own_step : (run : List ℕ) (at : ℕ) (s next : Loading) (end n : ℕ) → load_answer run at s n ≡ taken_step next end → step_at run at s ≡ taken_step next end
unfolding load_answer
own_step run at s next end n q = (peel (ltb n (room s)) (refused_untaken _ next end) q).1

pub record Opened (l : Ledger) (cells : List ℕ) (S : Sheet) : Type 0 where
  pub proper : ProperSoFar l.loading (sheet_so_far l.loading cells)
  pub empty : l.heights ≡ replicate 16 0
  -- once the balances are there
  pub said : 2 ≤ l.loading.stage → S ≡ sheet_so_far l.loading cells
  pub room : 2 ≤ l.loading.stage → (least_lengths l).sheet ≤ length cells

module _ (l : Ledger) (cells cells' run : List ℕ) (at : ℕ) (S : Sheet) (r : taken.Loaded) (p : Opened l cells S) (s : LoadsSheet l run at cells cells' r) where
  After : Type 0
  After = Opened r.ledger cells' (sheet_after l.loading (body_at run at) S r.answer)

  module _ (more : complete l ≡ false) (t : Step) (L : LoadStep run at l.loading cells cells' t) where
    -- the sheet so far, with what the frame added
    added : (next : Loading) (end : ℕ) → t ≡ taken_step next end → 2 ≤ next.stage → sheet_with l.loading (body_at run at) S ≡ sheet_so_far next cells'
    unfolding sheet_with complete header_loaded
    added next end q late =
        by_kind (judged-kind l.loading (kind_due l.loading) (body_at run at) at
        (took_judged l.loading run at next end (own_step run at l.loading next end (length cells) (sym L.bytes.answers ∙ q))).0)
      where
        A : Adds l.loading next (body_at run at) cells cells'
        A = L.adds next end q

        by_kind : (kind_due l.loading ≡ 1) ⊎ ((kind_due l.loading ≡ 2) ⊎ ((kind_due l.loading ≡ 3) ⊎ (kind_due l.loading ≡ 4)))
            → pick (eqb (kind_due l.loading) 2) (with_balances l.loading (body_at run at)) (pick (eqb (kind_due l.loading) 3) (with_transaction S (body_at run at)) S) ≡ sheet_so_far next cells'
        by_kind (inl e) = absurd (omega (arith, ap (λ (n : Loading). n.stage) (A.header e).0))
        by_kind (inr (inl e)) = took _ (eq-eqb _ _ e) (sym (A.balances e))
        by_kind (inr (inr (inl e))) =
            passed _ (ne_eqb (kind_due l.loading) 2 (λ z. omega arith))
            (took _ (eq-eqb _ _ e) (ap (λ (T : Sheet). with_transaction T (body_at run at)) (p.said (due_late l.loading 3 (omega arith) e)) ∙ sym (A.transaction e)))
        by_kind (inr (inr (inr e))) = absurd (let z : ◌≡◌ {A = Bool} true false = sym (eq-eqb _ _ e) ∙ more in let w : ◌≡◌ {A = ℕ} 0 1 = cc in omega arith)

  by_step : complete l ≡ false → (t : Step) → LoadStep run at l.loading cells cells' t → r ≡ after_step l t → After
  unfolding After
  by_step c (Ok (Some (n, e))) L q = rw q (record {
    proper = load-proper run at l.loading cells cells' n e L.bytes p.proper;
    empty = p.empty;
    said = added c (taken_step n e) L n e refl;
    room = load-room run at l.loading cells cells' n e L.bytes;
  })
  by_step c (Err x) L q = rw (q, untaken_cells run at l.loading cells cells' (Err x) L.bytes (refused_untaken x)) p
  by_step c (Ok None) L q = rw (q, untaken_cells run at l.loading cells cells' (Ok None) L.bytes end_untaken) p

  by_complete : (b : Bool) → complete l ≡ b → After
  unfolding After
  by_complete true e = rw ((s.whole e).0, (s.whole e).1) p
  by_complete false e = let (t, L, q) = s.loads e in by_step e t L q

-- a call whose cells are too short is refused, and leaves the ledger as it was
module _ (l : Ledger) (other other' run : List ℕ) (at : ℕ) (r : taken.Loaded) (h : length other < room l.loading) (s : LoadsSheet l run at other other' r) where
  few-step : (t : Step) → LoadStep run at l.loading other other' t → (after_step l t).ledger ≡ l
  unfolding load_answer
  few-step t L = rw (L.bytes.answers ∙ took _ (lt-ltb (length other) (room l.loading) h) refl) refl

  by_few : (b : Bool) → complete l ≡ b → r.ledger ≡ l
  by_few true e = ap (λ (x : taken.Loaded). x.ledger) (s.whole e).0
  by_few false e = let (t, L, q) = s.loads e in ap (λ (x : taken.Loaded). x.ledger) q ∙ few-step t L

  pub few_same : r.ledger ≡ l
  few_same = by_few (complete l) refl

-- the same cells elsewhere
module _ (l : Ledger) (cells cells' : List ℕ) (S : Sheet) (p : Opened l cells S) (e : 2 ≤ l.loading.stage → SameFront (least_lengths l).sheet cells' cells) where
  same_sheet : 2 ≤ l.loading.stage → sheet_so_far l.loading cells' ≡ sheet_so_far l.loading cells
  unfolding sheet_so_far
  same_sheet h = sheet-front l.loading.m l.loading.a l.loading.g l.loading.loaded l.loading.t cells cells' (p.proper.count h) (e h)

  elsewhere : Opened l cells' S
  elsewhere = record {
    proper = record {
      header = p.proper.header;
      count = p.proper.count;
      balances = λ h. rw (same_sheet h) (p.proper.balances h);
      transactions = λ h. rw (same_sheet h) (p.proper.transactions h);
    };
    empty = p.empty;
    said = λ h. p.said h ∙ sym (same_sheet h);
    room = λ h. omega (arith, p.room h, length-take (least_lengths l).sheet cells, length-take (least_lengths l).sheet cells', ap length (e h));
  }

pub opened : {l : Ledger} {cells : List ℕ} {S : Sheet} → Opening l cells S → Opened l cells S
unfolding After
opened (begin {cells = cells}) = record {
  proper = loaded_proper (fresh {s = fresh_ledger.loading} {cells = cells} refl);
  empty = refl;
  said = λ u. absurd (omega arith);
  room = λ u. absurd (omega arith);
}
opened (load {l} {cells} {cells'} {run} {at} {S} {r} o s) = by_complete l cells cells' run at S r (opened o) s (complete l) refl
opened (few {l} {cells} {other} {other'} {run} {at} {S} {r} o h s) = rw (few_same l other other' run at r h s) (opened o)
opened (early {l} {cells} {S} {K} {K'} {W} {W'} {o} {r} p e s) = rw (early_same l K W o r K' W' e s) (opened p)
opened (moved {l} {cells} {cells'} {S} o e) = elsewhere l cells cells' S (opened o) e

-- the loaded sheet is the one that the ledger's numbers read from the cells
pub whole-sheet : (l : Ledger) (K : Kept) → complete l ≡ true → sheet_so_far l.loading K.sheet ≡ sheet_of l K
unfolding complete sheet_so_far sheet_in
whole-sheet l K e = ap (λ (t : ℕ). sheet_from l.loading.m l.loading.a l.loading.g t K.sheet) (due_four l.loading (eqb-true (kind_due l.loading) 4 e))

pub sheet_said : (S : Sheet) (l : Ledger) (K : Kept) → Opening l K.sheet S → complete l ≡ true → S ≡ sheet_of l K
unfolding complete
sheet_said S l K o e = (opened o).said (due_late l.loading 4 (omega arith) (eqb-true (kind_due l.loading) 4 e)) ∙ whole-sheet l K e

pub sheet-proper : (S : Sheet) (l : Ledger) (K : Kept) → Opening l K.sheet S → complete l ≡ true → ProperSheet (sheet_of l K)
unfolding complete
sheet-proper S l K o e =
    let c = so_far_complete l.loading K.sheet (opened o).proper (eqb-true (kind_due l.loading) 4 e) in
    subst ProperSheet (whole-sheet l K e) (proper-sheet (sheet_so_far l.loading K.sheet) c.proper)
