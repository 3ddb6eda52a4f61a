-- Which case of a step holds, and what a kind that is due or a frame that was taken says.
-- Assumes nothing.
use Rattle.std.proofs.Common.{Err, None, Ok, Option, Some}
use Prim.Native.Nat.{◌+◌, ◌<◌, ◌≤◌, ℕ}
use borrow.Author.Tests.{eq-eqb, eqb-false, eqb-true, le-ltb, lt-ltb, ltb-true, ne_eqb, not-false}
use lib.Dec.{eqb, ltb}
use mathlib.Core.Bool.{Bool, false, not, true}
use mathlib.Core.List.{List}
use mathlib.Core.Logic.{◌⊎◌, inl, inr, ⊎_elim}
use mathlib.Core.Path.{◌∙◌, ◌≡◌, ap, refl, sym}
use native.Mathlib.Omega.{arith}
use Rattle.frames.specs.Balances.{check_balances}
use Rattle.frames.specs.Block.{check_block}
use Rattle.frames.specs.Frame.{body_at, body_of, Framed, frame_at, whole_frame}
use Rattle.frames.specs.declared.frame.Span.{Span}
use Rattle.frames.specs.Header.{check_header, header_ok}
use Rattle.frames.specs.Step.{after_check, after_frame, header_loaded, judged, kind_due, loading_after, Step, step_at, taken_step}
use Rattle.refusals.proofs.CheckedLaws.{none_left, ok_is, refused_not_fine}
use Rattle.sums.proofs.TestLaws.{first_taken, passed, peel, took}
use Rattle.sums.specs.Test.{pick}
use Rattle.transactions.specs.Check.{check_transaction}
use Rattle.frames.specs.declared.step.Loading.{Loading}
use Rattle.refusals.specs.Refusals.{Checked}
use Rattle.refusals.specs.declared.Refusal.{Refusal}
use Rattle.refusals.specs.declared.Refusal.TheVariants.{KindNotDue, Short}

-- a fine check took one side of a choice
either : (t : Bool) (x : Checked) {y : Checked} → pick t x y ≡ Ok tt → (t ≡ true) ⊎ ((t ≡ false) × (y ≡ Ok tt))
unfolding pick
either true x e = inl refl
either false x e = inr (refl, e)

-- Laws: which case holds. Their premises are facts of numbers, so that a proof finds them by `omega`.
module _ (s : Loading) where
  pub due_header : s.stage ≡ 0 → kind_due s ≡ 1
  unfolding kind_due
  due_header h = took _ (eq-eqb _ _ h) refl

  module _ (begun : s.stage ≡ 0 → ⊥) where
    pub due-none : header_ok s.m s.a s.g s.t ≡ false → kind_due s ≡ 0
    unfolding kind_due
    due-none e = passed _ (ne_eqb _ _ begun) (took _ (ap not e) refl)

    module _ (ok : header_ok s.m s.a s.g s.t ≡ true) where
      pub due-balances : s.stage ≡ 1 → kind_due s ≡ 2
      unfolding kind_due
      due-balances h = passed _ (ne_eqb _ _ begun) (passed _ (ap not ok) (took _ (eq-eqb _ _ h) refl))

      module _ (more : s.stage ≡ 1 → ⊥) where
        pub due-transaction : s.loaded < s.t → kind_due s ≡ 3
        unfolding kind_due
        due-transaction h = passed _ (ne_eqb _ _ begun) (passed _ (ap not ok) (passed _ (ne_eqb _ _ more) (took _ (lt-ltb _ _ h) refl)))

        pub due-block : s.t ≤ s.loaded → s.loaded ≡ s.t → kind_due s ≡ 4
        unfolding kind_due
        due-block l h =
            passed _ (ne_eqb _ _ begun)
            (passed _ (ap not ok) (passed _ (ne_eqb _ _ more) (passed _ (le-ltb _ _ l) (took _ (eq-eqb _ _ h) refl))))

        pub due-over : s.t ≤ s.loaded → (s.loaded ≡ s.t → ⊥) → kind_due s ≡ 0
        unfolding kind_due
        due-over l h =
            passed _ (ne_eqb _ _ begun)
            (passed _ (ap not ok) (passed _ (ne_eqb _ _ more) (passed _ (le-ltb _ _ l) (passed _ (ne_eqb _ _ h) refl))))

  module _ (kind : ℕ) (b : List ℕ) (at : ℕ) where
    pub judged-header : kind ≡ 1 → judged s kind b at ≡ check_header b at
    unfolding judged
    judged-header h = took _ (eq-eqb _ _ h) refl

    pub judged-balances : (kind ≡ 1 → ⊥) → kind ≡ 2 → judged s kind b at ≡ check_balances b at s.a
    unfolding judged
    judged-balances n h = passed _ (ne_eqb _ _ n) (took _ (eq-eqb _ _ h) refl)

    pub judged-transaction : (kind ≡ 1 → ⊥) → (kind ≡ 2 → ⊥) → kind ≡ 3 → judged s kind b at ≡ check_transaction b at s.a s.g
    unfolding judged
    judged-transaction n o h = passed _ (ne_eqb _ _ n) (passed _ (ne_eqb _ _ o) (took _ (eq-eqb _ _ h) refl))

    pub judged-block : (kind ≡ 1 → ⊥) → (kind ≡ 2 → ⊥) → (kind ≡ 3 → ⊥) → kind ≡ 4 → judged s kind b at ≡ check_block b at s.m
    unfolding judged
    judged-block n o q h = passed _ (ne_eqb _ _ n) (passed _ (ne_eqb _ _ o) (passed _ (ne_eqb _ _ q) (took _ (eq-eqb _ _ h) refl)))

    pub judged-unknown : (kind ≡ 1 → ⊥) → (kind ≡ 2 → ⊥) → (kind ≡ 3 → ⊥) → (kind ≡ 4 → ⊥) → judged s kind b at ≡ Err (KindNotDue at)
    unfolding judged
    judged-unknown n o q r = passed _ (ne_eqb _ _ n) (passed _ (ne_eqb _ _ o) (passed _ (ne_eqb _ _ q) (passed _ (ne_eqb _ _ r) refl)))

    -- a frame that is fine is of one of the four kinds
    pub judged-kind : judged s kind b at ≡ Ok tt → (kind ≡ 1) ⊎ ((kind ≡ 2) ⊎ ((kind ≡ 3) ⊎ (kind ≡ 4)))
    unfolding judged
    judged-kind e =
        ⊎_elim (λ q. inl (eqb-true kind 1 q))
        (λ p.
        inr
        (⊎_elim (λ q. inl (eqb-true kind 2 q))
        (λ r.
        inr
        (⊎_elim (λ q. inl (eqb-true kind 3 q))
        (λ u. inr (eqb-true kind 4 (⊎_elim (λ q. q) (λ v. absurd (refused_not_fine v.1)) (either (eqb kind 4) _ u.1))))
        (either (eqb kind 3) _ r.1)))
        (either (eqb kind 2) _ p.1)))
        (either (eqb kind 1) _ e)

-- what stands at the offset decides
module _ (run : List ℕ) (at : ℕ) (s : Loading) where
  by_frame : {f : Framed} → frame_at run at ≡ f → step_at run at s ≡ after_frame s at (body_of (frame_at run at) run) f
  unfolding step_at
  by_frame e = ap (after_frame s at (body_of (frame_at run at) run)) e

  module _ {span : Span} {o : Option Span} (framed : frame_at run at ≡ Ok o) (found : o ≡ Some span) where
    here : frame_at run at ≡ Ok (Some span)
    here = ok_is framed found

    pub step-kind : (span.kind ≡ kind_due s → ⊥) → step_at run at s ≡ Err (KindNotDue at)
    step-kind n = by_frame here ∙ took _ (ap not (ne_eqb _ _ n)) refl

    module _ {b : List ℕ} (due : span.kind ≡ kind_due s) (body : b ≡ body_at run at) where
      judged_so : {v : Checked} → judged s span.kind b at ≡ v → step_at run at s ≡ after_check (loading_after s span.kind b) span.end v
      judged_so e = by_frame here ∙ passed _ (ap not (eq-eqb _ _ due)) (rw (← body) (ap (after_check (loading_after s span.kind b) span.end) e))

      pub next_refused : {r : Refusal} → judged s span.kind b at ≡ Err r → step_at run at s ≡ Err r
      next_refused e = judged_so e

      pub next_taken : {next : Loading} → judged s span.kind b at ≡ Ok tt → next ≡ loading_after s span.kind b → step_at run at s ≡ taken_step next span.end
      next_taken e q = judged_so e ∙ ap (λ (n : Loading). taken_step n span.end) (sym q)

  pub step-take : {k start end : ℕ} → frame_at run at ≡ whole_frame k start end → k ≡ kind_due s
      → step_at run at s ≡ after_check (loading_after s k (body_of (frame_at run at) run)) end (judged s k (body_of (frame_at run at) run) at)
  step-take e h = by_frame e ∙ passed _ (ap not (eq-eqb _ _ h)) refl

  pub step-refused : {r : Refusal} → frame_at run at ≡ Err r → step_at run at s ≡ Err r
  step-refused e = by_frame e

  pub step_end : frame_at run at ≡ Ok None → kind_due s ≡ 4 → step_at run at s ≡ Ok None
  step_end e h = by_frame e ∙ took _ (eq-eqb _ _ h) refl

  pub step-early : frame_at run at ≡ Ok None → (kind_due s ≡ 4 → ⊥) → step_at run at s ≡ Err (Short at)
  step-early e n = by_frame e ∙ passed _ (ne_eqb _ _ n) refl

-- a step's answer that is taken apart in two steps
module _ {o : Option (Loading × ℕ)} (run : List ℕ) (at : ℕ) (s : Loading) (e : step_at run at s ≡ Ok o) where
  pub step_taken : {taken : Loading × ℕ} → o ≡ Some taken → step_at run at s ≡ taken_step taken.0 taken.1
  step_taken f = ok_is e f

  pub run_ended : ((x : Loading × ℕ) → o ≡ Some x → ⊥) → step_at run at s ≡ Ok None
  run_ended n = ok_is e (none_left _ n)

-- ---- what the kind due says of the sheet so far

pub differ : (n k : ℕ) → (n < k) ⊎ (k < n) → n ≡ k → ⊥
differ n k (inl h) e = omega arith
differ n k (inr h) e = omega arith

-- of a kind from 2 on: there is a header, and it is fine
past-header : (s : Loading) (k : ℕ) → 2 ≤ k → kind_due s ≡ k
    → (eqb s.stage 0 ≡ false) × (header_ok s.m s.a s.g s.t ≡ true) × (pick (eqb s.stage 1) 2 (pick (ltb s.loaded s.t) 3 (pick (eqb s.loaded s.t) 4 0)) ≡ k)
unfolding kind_due
past-header s k h e =
    let p = peel (eqb s.stage 0) (differ 1 k (inl (omega arith))) e in
    let q = peel (not (header_ok s.m s.a s.g s.t)) (differ 0 k (inl (omega arith))) p.1 in
    (p.0, not-false _ q.0, q.1)

pub begun : (s : Loading) (k : ℕ) → 2 ≤ k → kind_due s ≡ k → eqb s.stage 0 ≡ false
begun s k h e = (past-header s k h e).0

pub due_header_ok : (s : Loading) (k : ℕ) → 2 ≤ k → kind_due s ≡ k → header_ok s.m s.a s.g s.t ≡ true
due_header_ok s k h e = (past-header s k h e).1

-- of a kind from 3 on: the balances are there
past-balances : (s : Loading) (k : ℕ) → 3 ≤ k → kind_due s ≡ k → (eqb s.stage 1 ≡ false) × (pick (ltb s.loaded s.t) 3 (pick (eqb s.loaded s.t) 4 0) ≡ k)
past-balances s k h e = peel (eqb s.stage 1) (differ 2 k (inl (omega arith))) (past-header s k (omega arith) e).2

pub due_late : (s : Loading) (k : ℕ) → 3 ≤ k → kind_due s ≡ k → 2 ≤ s.stage
due_late s k h e = omega (arith, eqb-false s.stage 0 (begun s k (omega arith) e), eqb-false s.stage 1 (past-balances s k h e).0)

-- a transaction is due while there are fewer than t, a block when there are t
pub due_three : (s : Loading) → kind_due s ≡ 3 → s.loaded < s.t
due_three s e = ltb-true s.loaded s.t (first_taken _ 3 four (past-balances s 3 (omega arith) e).1)
  where
    four : pick {A = ℕ} (eqb s.loaded s.t) 4 0 ≡ 3 → ⊥
    four q = differ 0 3 (inl (omega arith)) (peel (eqb s.loaded s.t) (differ 4 3 (inr (omega arith))) q).1

pub due_four : (s : Loading) → kind_due s ≡ 4 → s.loaded ≡ s.t
due_four s e =
    let u = peel (ltb s.loaded s.t) (differ 3 4 (inl (omega arith))) (past-balances s 4 (omega arith) e).1 in
    eqb-true s.loaded s.t (first_taken _ 4 (differ 0 4 (inl (omega arith))) u.1)

pub same_taken : {n n' : Loading} {e e' : ℕ} → taken_step n e ≡ taken_step n' e' → (n ≡ n') × (e ≡ e')
same_taken {n} {n'} {e} {e'} q =
    let p : ◌≡◌ {A = Loading × ℕ} (n, e) (n', e') = cc in
    (ap (λ (x : Loading × ℕ). x.0) p, ap (λ (x : Loading × ℕ). x.1) p)

-- a frame that was taken was due and fine
module _ (s : Loading) (run : List ℕ) (at : ℕ) (next : Loading) (end : ℕ) where
  by_check : (b : List ℕ) (k : ℕ) (e : ℕ) (v : Checked) → after_check (loading_after s k b) e v ≡ taken_step next end → (v ≡ Ok tt) × (next ≡ loading_after s k b)
  by_check b k e (Ok _) q = (refl, sym (same_taken q).0)
  by_check b k e (Err r) q = let z : ◌≡◌ {A = ℕ} 0 1 = cc in absurd (never z)
    where
      never : ◌≡◌ {A = ℕ} 0 1 → ⊥
      never z = omega arith

  refused_no : {r : Refusal} → ◌≡◌ {A = Step} (Err r) (taken_step next end) → ⊥
  refused_no q = let z : ◌≡◌ {A = ℕ} 0 1 = cc in omega arith

  end_no : ◌≡◌ {A = Step} (Ok None) (taken_step next end) → ⊥
  end_no q = let z : ◌≡◌ {A = ℕ} 0 1 = cc in omega arith

  by_whole : (b : List ℕ) (k start e : ℕ) → after_frame s at b (whole_frame k start e) ≡ taken_step next end
      → (k ≡ kind_due s) × (after_check (loading_after s k b) e (judged s k b at) ≡ taken_step next end)
  by_whole b k start e q = let p = peel (not (eqb k (kind_due s))) refused_no q in (eqb-true k (kind_due s) (not-false _ p.0), p.1)

  by_framed : (b : List ℕ) (f : Framed) → after_frame s at b f ≡ taken_step next end → (judged s (kind_due s) b at ≡ Ok tt) × (next ≡ loading_after s (kind_due s) b)
  by_framed b (Ok (Some span)) q = let (due, p) = by_whole b span.kind span.start span.end q in rw due at (by_check b span.kind span.end (judged s span.kind b at) p)
  by_framed b (Err r) q = absurd (refused_no q)
  by_framed b (Ok None) q = absurd (refused_no (peel (eqb (kind_due s) 4) end_no q).1)

  -- of a frame, the kind due, ending where the step says
  pub took_due : {k start e : ℕ} → frame_at run at ≡ whole_frame k start e → step_at run at s ≡ taken_step next end → k ≡ kind_due s
  took_due {k} {start} {e} f q = (by_whole (body_of (frame_at run at) run) k start e (sym (by_frame run at s f) ∙ q)).0

  pub took_judged : step_at run at s ≡ taken_step next end
      → (judged s (kind_due s) (body_of (frame_at run at) run) at ≡ Ok tt) × (next ≡ loading_after s (kind_due s) (body_of (frame_at run at) run))
  unfolding step_at
  took_judged q = by_framed (body_of (frame_at run at) run) (frame_at run at) q

-- the sheet so far after a frame of each kind
module _ (s : Loading) (kind : ℕ) (b : List ℕ) where
  pub after-header : kind ≡ 1 → loading_after s kind b ≡ header_loaded b
  unfolding loading_after
  after-header h = took _ (eq-eqb _ _ h) refl

  pub after-balances : kind ≡ 2 → loading_after s kind b ≡ record { m = s.m; a = s.a; g = s.g; t = s.t; stage = 2; loaded = 0 }
  unfolding loading_after
  after-balances h = passed _ (ne_eqb _ _ (λ (w : kind ≡ 1). omega arith)) (took _ (eq-eqb _ _ h) refl)

  pub after-transaction : kind ≡ 3 → s.loaded < s.t → loading_after s kind b ≡ record { m = s.m; a = s.a; g = s.g; t = s.t; stage = 2; loaded = s.loaded + 1 }
  unfolding loading_after
  after-transaction h l =
      passed _ (ne_eqb _ _ (λ (w : kind ≡ 1). omega arith))
      (passed _ (ne_eqb _ _ (λ (w : kind ≡ 2). omega arith)) (took _ (eq-eqb _ _ h) (took _ (lt-ltb _ _ l) refl)))

  pub after_block : kind ≡ 4 → loading_after s kind b ≡ s
  unfolding loading_after
  after_block h =
      passed _ (ne_eqb _ _ (λ (w : kind ≡ 1). omega arith))
      (passed _ (ne_eqb _ _ (λ (w : kind ≡ 2). omega arith)) (passed _ (ne_eqb _ _ (λ (w : kind ≡ 3). omega arith)) refl))
