-- A run's sheet, opened frame by frame, is what its bytes say.
-- Assumes nothing.
use Rattle.std.proofs.Common.{Ok, Err, Some, None}
use Prim.Native.Nat.{◌+◌, ◌-◌, ◌<◌, ◌≤◌, suc, zero, ℕ}
use borrow.Author.Tests.{eqb-false, le-ltb}
use lib.Dec.{eqb, ltb}
use lib.ListN.{length}
use mathlib.Core.Bool.{Bool, false, not, true}
use mathlib.Core.List.{List, []}
use mathlib.Core.Path.{◌∙◌, ◌≡◌, ap, refl, sym}
use native.Mathlib.Omega.{arith}
use Rattle.demand.proofs.Opened.{end_untaken, opened, refused_untaken, sheet_said}
use Rattle.demand.specs.Chain.{Opening, begin, load, no_sheet, sheet_with}
use Rattle.frames.proofs.FrameLaws.{frame_is}
use Rattle.frames.proofs.HeaderLaws.{header_bounds}
use Rattle.frames.proofs.StepLaws.{same_taken}
use Rattle.frames.specs.Frame.{body_at, body_of, frame_at}
use Rattle.frames.specs.Step.{after_check, after_frame, judged, kind_due, loading_after, step_at, taken_step}
use Rattle.frames.specs.Frame.{Framed}
use Rattle.frames.specs.declared.step.Loading.{Loading}
use Rattle.frames.specs.Step.{Step}
use Rattle.frames_load.proofs.LoadLaws.{end_kept, length_stored, refused-kept, with_adds}
use Rattle.frames_load.specs.Load.{LoadStep, Loads, body_stored, load_answer, load_cells, loaded_cells, room}
use Rattle.refusals.specs.Refusals.{Checked}
use Rattle.refusals.specs.declared.Refusal.{Refusal}
use Rattle.refusals.specs.declared.Refusal.TheVariants.{BufferShort, KindNotDue, Short}
use Rattle.replay.specs.Inner.{Opens, Stand, stand, stand_from, stand_of, stand_step}
use Rattle.replay.specs.declared.opening.Opened as opening
use Rattle.replay.specs.Opening.{Opened, ended, no_loading, open_from, open_step, sheet}
use Rattle.sheets.specs.Sheet.{Sheet, sheet_in}
use Rattle.state.proofs.LoadSheet.{sheet-step}
use Rattle.state.specs.Loading.{LoadsSheet, after_step}
use Rattle.state.specs.State.{complete, fresh_ledger, kept, sizes_of}
use Rattle.state.specs.declared.ledger.Ledger.{Ledger}
use Rattle.state.specs.declared.load.Loaded as loading
use Rattle.sums.proofs.TestLaws.{by-pick, peel, pick-false, pick_true}

-- ---- where a step ends

took_end : (next n : Loading) (e e' : ℕ) (c : Checked) → after_check n e' c ≡ taken_step next e → e ≡ e'
took_end next n e e' (Ok _) q = sym (same_taken q).1
took_end next n e e' (Err r) q = absurd (refused_untaken r next e q)

-- a frame that was taken ends behind its offset, in the run
pub step-ends : (run : List ℕ) (at : ℕ) (s next : Loading) (e : ℕ) → step_at run at s ≡ taken_step next e → (at < e) × (e ≤ length run)
unfolding step_at
step-ends run at s next e q = by_frame (frame_at run at) refl q
  where
    by_frame : (f : Framed) → frame_at run at ≡ f → after_frame s at (body_of (frame_at run at) run) f ≡ taken_step next e → (at < e) × (e ≤ length run)
    by_frame (Ok (Some span)) h p =
        let F = frame_is run at h in
        let z : e ≡ span.end = took_end next (loading_after s span.kind (body_of (frame_at run at) run)) e span.end (judged s span.kind (body_of (frame_at run at) run) at) (peel (not (eqb span.kind (kind_due s))) (refused_untaken (KindNotDue at) next e) p).1 in
        (omega (arith, F.ends, F.low), omega (arith, F.fits))
    by_frame (Err r) h p = absurd (refused_untaken r next e p)
    by_frame (Ok None) h p = absurd (refused_untaken (Short at) next e (peel (eqb (kind_due s) 4) (end_untaken next e) p).1)

-- ---- room

pub room_small : (l : Ledger) (cells : List ℕ) (S : Sheet) → Opening l cells S → room l.loading ≤ 110592
unfolding room
room_small l cells S o =
    by-pick (λ (n : ℕ). n ≤ 110592) (eqb l.loading.stage 0) (λ e. omega arith)
    (λ e. let h = header_bounds _ _ _ _ ((opened o).proper.header (omega (arith, eqb-false l.loading.stage 0 e))) in omega arith)

-- ---- the loop follows the definition

pub record Comes (run cells₀ : List ℕ) (at : ℕ) (l : Ledger) (cells : List ℕ) : Type 0 where
  pub inside : at ≤ length run
  pub fuel : ℕ
  pub enough : length run ≤ at + fuel
  pub came : stand_from (suc fuel) run at l cells ≡ stand_of run cells₀

pub comes_first : (run cells : List ℕ) (l : Ledger) → l ≡ fresh_ledger → Comes run cells 0 l cells
comes_first run cells l e = record { inside = omega arith; fuel = length run; enough = omega arith; came = rw e refl }

opens_as : (run cells₀ cells cells' : List ℕ) (at : ℕ) (l : Ledger) (a : Checked) → cells' ≡ cells → stand a l at cells ≡ stand_of run cells₀
    → Opens run cells₀ (record { answer = a; ledger = l; at = at }) cells'
opens_as run cells₀ cells cells' at l a e q = record { result = ap (λ (s : Stand). s.result) q; cells = e ∙ ap (λ (s : Stand). s.cells) q }

-- the sheet is complete
pub comes_whole : (run cells₀ cells : List ℕ) (at : ℕ) (l : Ledger) → complete l ≡ true → Comes run cells₀ at l cells → Opens run cells₀ (record { answer = (Ok tt); ledger = l; at = at }) cells
unfolding stand_from
comes_whole run cells₀ cells at l e c = opens_as run cells₀ cells cells at l (Ok tt) refl (sym (pick_true _ _ _ e) ∙ c.came)

module _ (run cells₀ cells cells' : List ℕ) (at : ℕ) (l : Ledger) (r : loading.Loaded) (c : Comes run cells₀ at l cells) (more : complete l ≡ false) (s : LoadsSheet l run at cells cells' r) where
  -- the step that it was
  t : Step
  t = (s.loads more).0

  B : Loads run at l.loading cells cells' t
  unfolding t
  B = (s.loads more).1.bytes

  done : r ≡ after_step l t
  unfolding t
  done = (s.loads more).2

  -- what follows a step
  abbrev follow : Step → Stand
  follow = stand_step (λ next end. stand_from c.fuel run end next (load_cells run at l.loading cells)) l at cells

  goes : follow t ≡ stand_of run cells₀
  unfolding stand_from
  goes = ap follow B.answers ∙ sym (pick-false (complete l) _ _ more) ∙ c.came

  took_comes : (next : Loading) (end : ℕ) → t ≡ taken_step next end → Comes run cells₀ end r.ledger cells' × (at < end)
  unfolding load_answer
  took_comes next end q =
      let n = room l.loading in
      let e = step-ends run at l.loading next end (peel (ltb (length cells) n) (refused_untaken (BufferShort n) next end) (sym B.answers ∙ q)).1 in
      let f : c.fuel ≡ suc (c.fuel - 1) = omega (arith, c.enough, e.0, e.1) in
      let d : r.ledger ≡ record { loading = next; heights = l.heights } = ap (λ (x : loading.Loaded). x.ledger) (done ∙ ap (after_step l) q) in (
        record {
          inside = e.1;
          fuel = c.fuel - 1;
          enough = omega (arith, c.enough, e.0);
          came = rw (d, sym f, B.cells) (ap follow (sym q) ∙ goes);
        },
        e.0,
      )

  -- which arm of the match it was

  same_next : (u : Step) (end : ℕ) → (after_step l u).answer ≡ Ok (Some end) → (n : Loading) × (u ≡ taken_step n end)
  same_next (Ok (Some (n, e))) end q = (n, let z : e ≡ end = cc in ap (taken_step n) z)
  same_next (Err x) end q = absurd (let z : ◌≡◌ {A = ℕ} 0 1 = cc in omega arith)
  same_next (Ok None) end q = absurd (let z : ◌≡◌ {A = ℕ} 0 1 = cc in omega arith)

  same_refused : (u : Step) (x : Refusal) → (after_step l u).answer ≡ Err x → u ≡ Err x
  same_refused (Ok (Some (n, e))) x q = absurd (let z : ◌≡◌ {A = ℕ} 0 1 = cc in omega arith)
  same_refused (Err y) x q = let z : y ≡ x = cc in rw z refl
  same_refused (Ok None) x q = absurd (let z : ◌≡◌ {A = ℕ} 0 1 = cc in omega arith)

  same_end : (u : Step) → (after_step l u).answer ≡ Ok None → u ≡ Ok None
  same_end (Ok (Some (n, e))) q = absurd (let z : ◌≡◌ {A = ℕ} 0 1 = cc in omega arith)
  same_end (Err y) q = absurd (let z : ◌≡◌ {A = ℕ} 0 1 = cc in omega arith)
  same_end (Ok None) q = refl

  answer_is : r.answer ≡ (after_step l t).answer
  answer_is = ap (λ (x : loading.Loaded). x.answer) done

  pub step-next : (end : ℕ) → r.answer ≡ Ok (Some end) → Comes run cells₀ end r.ledger cells' × (at < end)
  step-next end q = let (n, z) = same_next t end (sym answer_is ∙ q) in took_comes n end z

  pub step-refused : (x : Refusal) → r.answer ≡ Err x → Opens run cells₀ (record { answer = Err x; ledger = l; at = at }) cells'
  step-refused x q =
      let z = same_refused t x (sym answer_is ∙ q) in
      opens_as run cells₀ cells cells' at l (Err x) (refused-kept run at l.loading cells cells' (rw z at B)) (ap follow (sym z) ∙ goes)

  pub step_end : r.answer ≡ Ok None → Opens run cells₀ (record { answer = Err (Short at); ledger = l; at = at }) cells'
  step_end q =
      let z = same_end t (sym answer_is ∙ q) in
      opens_as run cells₀ cells cells' at l (Err (Short at)) (end_kept run at l.loading cells cells' (rw z at B)) (ap follow (sym z) ∙ goes)

-- ---- with cells that suffice for every sheet it is what the bytes say

-- by the answer, the ledger with its cells, and the offset
abbrev pub came_to : Checked → Ledger → List ℕ → ℕ → Opened
came_to (Ok _) l cells at = sheet (sheet_in cells (sizes_of l)) at
came_to (Err r) l cells at = ended r

pub record Said (o : Opened) (s : Stand) : Type 0 where
  pub opened : (S : Sheet) × Opening s.result.ledger s.cells S
  pub whole : s.result.answer ≡ Ok tt → complete s.result.ledger ≡ true
  pub came : came_to s.result.answer s.result.ledger s.cells s.result.at ≡ o

said_as : {o o' : Opened} {s s' : Stand} → o ≡ o' → s ≡ s' → Said o' s' → Said o s
said_as e q p = rw (e, q) p

never_fine : (x : Refusal) → ◌≡◌ {A = Checked} (Err x) (Ok tt) → ⊥
never_fine x q = let z : ◌≡◌ {A = ℕ} 0 1 = cc in omega arith

said_refused : (l : Ledger) (cells : List ℕ) (S : Sheet) (at : ℕ) (x : Refusal) → Opening l cells S → Said (ended x) (stand (Err x) l at cells)
said_refused l cells S at x o = record { opened = (S, o); whole = λ e. absurd (never_fine x e); came = refl }

-- one step, whatever the rest is
module _ (run : List ℕ) (at : ℕ) (l : Ledger) (cells : List ℕ) (S : Sheet) (o : Opening l cells S) (h : 110592 ≤ length cells) where
  roomy : ltb (length cells) (room l.loading) ≡ false
  roomy = le-ltb (length cells) (room l.loading) (omega (arith, h, room_small l cells S o))

  answer_said : load_answer run at l.loading (length cells) ≡ step_at run at l.loading
  unfolding load_answer
  answer_said = pick-false _ _ _ roomy

  abbrev cells' : List ℕ
  cells' = load_cells run at l.loading cells

  pub more_loaded : complete l ≡ false → (next : Loading) (end : ℕ) → step_at run at l.loading ≡ taken_step next end
      → Opening (record { loading = next; heights = l.heights }) cells' (sheet_with l.loading (body_at run at) S) × (110592 ≤ length cells')
  unfolding load_cells
  more_loaded f next end e =
      let t : Step = taken_step next end in
      let stored : cells' ≡ body_stored l.loading (body_at run at) cells = pick-false _ _ _ roomy ∙ ap (loaded_cells l.loading (body_at run at) cells) e in
      let L : LoadStep run at l.loading cells cells' t = with_adds run at l.loading cells cells' t (record { answers = sym (answer_said ∙ e); cells = refl }) in
      (load o (sheet-step l run at cells cells' t t f L refl), omega (arith, h, ap length stored ∙ length_stored l.loading (body_at run at) cells))

module _ (fuel : ℕ) (run : List ℕ) (at : ℕ) (l : Ledger) (cells : List ℕ) (S : Sheet) (o : Opening l cells S) (h : 110592 ≤ length cells)
    (rest : (end : ℕ) (l' : Ledger) (cells' : List ℕ) (S' : Sheet) → Opening l' cells' S' → 110592 ≤ length cells'
    → Said (open_from fuel run end l'.loading S') (stand_from fuel run end l' cells')) where
  abbrev says : Step → Opened
  says = open_step (λ next end. open_from fuel run end next (sheet_with l.loading (body_at run at) S)) at

  abbrev stands : Step → Stand
  stands = stand_step (λ next end. stand_from fuel run end next (load_cells run at l.loading cells)) l at cells

  by_step : complete l ≡ false → (u : Step) → step_at run at l.loading ≡ u → Said (says u) (stands u)
  by_step f (Ok (Some (next, end))) e =
      let (o', h') = more_loaded run at l cells S o h f next end e in
      rest end (record { loading = next; heights = l.heights }) (load_cells run at l.loading cells) (sheet_with l.loading (body_at run at) S) o' h'
  by_step f (Err r) e = said_refused l cells S at r o
  by_step f (Ok None) e = said_refused l cells S at (Short at) o

  by_complete : (b : Bool) → complete l ≡ b → Said (open_from (suc fuel) run at l.loading S) (stand_from (suc fuel) run at l cells)
  unfolding open_from stand_from complete
  by_complete true e =
      said_as (pick_true _ _ _ e) (pick_true _ _ _ e)
      (record { opened = (S, o); whole = λ q. e; came = ap (λ (T : Sheet). sheet T at) (sym (sheet_said S l (kept cells [] [] [] []) o e)) })
  by_complete false e =
      said_as (pick-false _ _ _ e) (pick-false _ _ _ e ∙ ap stands (answer_said run at l cells S o h)) (by_step e (step_at run at l.loading) refl)

  said_step : Said (open_from (suc fuel) run at l.loading S) (stand_from (suc fuel) run at l cells)
  said_step = by_complete (complete l) refl

said_from : (fuel : ℕ) (run : List ℕ) (at : ℕ) (l : Ledger) (cells : List ℕ) (S : Sheet) → Opening l cells S → 110592 ≤ length cells
    → Said (open_from fuel run at l.loading S) (stand_from fuel run at l cells)
said_from zero run at l cells S o h = unfold open_from stand_from in said_refused l cells S at (Short at) o
said_from (suc fuel) run at l cells S o h = said_step fuel run at l cells S o h (λ end l' cells' S' o' h'. said_from fuel run end l' cells' S' o' h')

pub opens_said : {run before after : List ℕ} {r : opening.Opened} → 110592 ≤ length before → Opens run before r after
    → Said (open_from (suc (length run)) run 0 no_loading no_sheet) (record { result = r; cells = after })
opens_said {run} {before} h o = said_as refl (rw (o.result, o.cells) refl) (said_from (suc (length run)) run 0 fresh_ledger before no_sheet begin h)
