-- Which answer loading gives, and what it leaves of the sheet.
-- Assumes nothing.
use Rattle.std.proofs.Common.{Ok, Err, None}
use Prim.Native.Nat.{◌*◌, ◌+◌, ◌-◌, ◌<◌, ◌≤◌, min, ℕ}
use borrow.Author.Tests.{eq-eqb, le-ltb, lt-ltb, ltb-false, ne_eqb}
use lib.Dec.{eqb, ltb}
use lib.ListN.{drop, length, take}
use lib.Seq.{length-sets, sets}
use mathlib.Core.Bool.{Bool, false, true}
use mathlib.Core.List.{List}
use mathlib.Core.Path.{◌∙◌, ◌≡◌, ap, refl, sym}
use native.Mathlib.Omega.{arith}
use Rattle.fields.proofs.NumberLaws.{le-front}
use Rattle.fields.proofs.StoreLaws.{number_before, part_at, part_before, take-front}
use Rattle.fields.specs.Number.{le}
use Rattle.frames.proofs.BalancesLaws.{balances_checked, balances_each}
use Rattle.frames.proofs.HeaderLaws.{header_checked}
use Rattle.frames.proofs.StepLaws.{after-balances, after_block, after-header, after-transaction, begun, due_three, judged-balances, judged-header, judged-transaction, took_judged}
use Rattle.frames.specs.Balances.{balances_of, balances_ok}
use Rattle.frames.specs.Frame.{body_at, body_of, frame_at}
use Rattle.frames.specs.Header.{header_of, header_ok}
use Rattle.sheets.specs.Sheet.{balance_in, sheet_from, slot_from, transaction_in}
use Rattle.frames.specs.Step.{kind_due, step_at, taken_step}
use Rattle.frames_load.specs.Load.{LoadStep, Adds, Loads, body_stored, load_answer, load_cells, loaded_cells, room, sheet_so_far, with_balances, with_transaction}
use Rattle.sums.proofs.LoopLaws.{tabulate-more}
use Rattle.sums.proofs.SeqLaws.{get_d_tabulate, length-tabulate, tabulate_ext}
use Rattle.sums.proofs.TestLaws.{by-pick, passed, peel, took}
use Rattle.sums.specs.Seq.{tabulate}
use Rattle.sums.specs.Test.{pick}
use Rattle.transactions.proofs.BodyLaws.{BodyFine, judged_anywhere, transaction_checked, transaction_fine, transaction-front}
use Rattle.transactions.specs.Body.{transaction_of}
use Rattle.transactions.specs.Check.{check_transaction, judge_transaction}
use Rattle.frames.specs.declared.step.Loading.{Loading}
use Rattle.frames.specs.Step.{Step}
use Rattle.refusals.specs.declared.Refusal.{Refusal}
use Rattle.refusals.specs.declared.Refusal.TheVariants.{BufferShort}

pub room_is : (s : Loading) (k : ℕ) → 2 ≤ k → kind_due s ≡ k → room s ≡ slot_from s.a s.t
unfolding room
room_is s k h e = passed _ (begun s k h e) refl

pub length_stored : (s : Loading) (b cells : List ℕ) → length (body_stored s b cells) ≡ length cells
unfolding body_stored
length_stored s b cells =
    by-pick (λ (c : List ℕ). length c ≡ length cells) (eqb (kind_due s) 2) (λ e. length-sets cells 0 b)
    (λ e. by-pick (λ (c : List ℕ). length c ≡ length cells) (eqb (kind_due s) 3) (λ u. length-sets cells _ b) (λ u. refl))

-- what was taken is fine, fits the room, and goes to its place
module _ (s : Loading) (run : List ℕ) (at : ℕ) (next : Loading) (end : ℕ) (q : step_at run at s ≡ taken_step next end) where
  abbrev B : List ℕ
  B = body_at run at

  pub took_header : kind_due s ≡ 1 → header_ok (header_of B).m (header_of B).a (header_of B).g (header_of B).t ≡ true
  took_header e = (header_checked B at (sym (judged-header s (kind_due s) B at e) ∙ (took_judged s run at next end q).0)).1

  pub took_balances : kind_due s ≡ 2 → (length B ≡ 8 * s.a) × (balances_ok (balances_of s.a B) ≡ true)
  took_balances e =
      balances_checked B at s.a (sym (judged-balances s (kind_due s) B at (λ (w : kind_due s ≡ 1). omega arith) e) ∙ (took_judged s run at next end q).0)

  took_check : kind_due s ≡ 3 → check_transaction B at s.a s.g ≡ Ok tt
  took_check e =
      sym (judged-transaction s (kind_due s) B at (λ (w : kind_due s ≡ 1). omega arith) (λ (w : kind_due s ≡ 2). omega arith) e) ∙ (took_judged s run at next end q).0

  pub took_transaction : kind_due s ≡ 3 → BodyFine B
  took_transaction e = transaction_fine B at s.a s.g (took_check e)

  pub took_judgement : kind_due s ≡ 3 → judge_transaction 0 s.a s.g (transaction_of B) ≡ Ok tt
  took_judgement e = judged_anywhere at 0 s.a s.g (transaction_of B) (transaction_checked B at s.a s.g (took_check e))

  module _ (cells : List ℕ) (wide : room s ≤ length cells) where
    load-transaction : kind_due s ≡ 3 → sheet_so_far next (body_stored s B cells) ≡ with_transaction (sheet_so_far s cells) B
    unfolding sheet_so_far sheet_from body_stored
    load-transaction e =
        let r = room_is s 3 (omega arith) e in
        let f = took_transaction e in
        let l = due_three s e in
        let i = slot_from s.a s.loaded in
        let fits : i + length B ≤ length cells = omega arith in
        let cells' = sets cells i B in
        let kept : body_stored s B cells ≡ cells' = passed _ (ne_eqb _ _ (λ (w : kind_due s ≡ 2). omega arith)) (took _ (eq-eqb _ _ e) refl) in
        let after = (took_judged s run at next end q).1 ∙ after-transaction s (kind_due s) B e l in
        let balances = tabulate_ext s.a (balance_in cells') (balance_in cells)
        (λ k lt. ap (λ (v : ℕ). min v 1099511627776) (number_before cells i B fits 8 (8 * k) (omega arith))) in
        let olds = tabulate_ext s.loaded (transaction_in s.a cells') (transaction_in s.a cells)
        (λ x lt. ap transaction_of (part_before cells i B fits 100 (slot_from s.a x) (omega arith))) in
        let new : transaction_in s.a cells' s.loaded ≡ transaction_of B =
        ap (λ (r : List ℕ). transaction_of (take 100 r)) (part_at cells i B fits)
        ∙ ap transaction_of (take-front B (drop (i + length B) cells) 100 f.small)
        ∙ transaction-front B (take (100 - length B) (drop (i + length B) cells)) f.four f.due in
        rw (kept, after, balances, tabulate-more s.loaded (transaction_in s.a cells'), olds, new) refl

    -- a balance that was taken is at most 2^40, so the cut in `balance_in` leaves it as it is
    uncut : kind_due s ≡ 2 → (k : ℕ) → k < s.a → min (le 8 B (8 * k)) 1099511627776 ≡ le 8 B (8 * k)
    unfolding balances_of
    uncut e k lt =
        let v = balances_each (balances_of s.a B) (took_balances e).1 k (rw length-tabulate lt) in
        let w : le 8 B (8 * k) ≤ 1099511627776 = rw (get_d_tabulate s.a (λ i. le 8 B (8 * i)) k 0 lt) at v in
        omega arith

    load-balances : kind_due s ≡ 2 → sheet_so_far next (body_stored s B cells) ≡ with_balances s B
    unfolding sheet_so_far sheet_from body_stored balances_of tabulate
    load-balances e =
        let r = room_is s 2 (omega arith) e in
        let long = (took_balances e).0 in
        let fits : 0 + length B ≤ length cells = omega arith in
        let cells' = sets cells 0 B in
        let kept : body_stored s B cells ≡ cells' = took _ (eq-eqb _ _ e) refl in
        let after = (took_judged s run at next end q).1 ∙ after-balances s (kind_due s) B e in
        let balances = tabulate_ext s.a (balance_in cells') (λ k. le 8 B (8 * k))
        (λ k lt. ap (λ (v : ℕ). min v 1099511627776)
        (ap (λ (r : List ℕ). le 8 r (8 * k)) (part_at cells 0 B fits) ∙ le-front 8 B (drop (0 + length B) cells) (8 * k) (omega arith)) ∙ uncut e k lt) in
        rw (kept, after, balances) refl

    load-other : (kind_due s ≡ 2 → ⊥) → (kind_due s ≡ 3 → ⊥) → body_stored s B cells ≡ cells
    unfolding body_stored
    load-other n o = passed _ (ne_eqb _ _ n) (passed _ (ne_eqb _ _ o) refl)

    stored-adds : {after : List ℕ} → after ≡ body_stored s B cells → Adds s next B cells after
    stored-adds p = record {
      header = λ e. ((took_judged s run at next end q).1 ∙ after-header s (kind_due s) B e, p ∙ load-other (λ (w : kind_due s ≡ 2). omega arith) (λ (w : kind_due s ≡ 3). omega arith));
      balances = λ e. ap (sheet_so_far next) p ∙ load-balances e;
      transaction = λ e. ap (sheet_so_far next) p ∙ load-transaction e;
      block = λ e. ((took_judged s run at next end q).1 ∙ after_block s (kind_due s) B e, p ∙ load-other (λ (w : kind_due s ≡ 2). omega arith) (λ (w : kind_due s ≡ 3). omega arith));
    }

-- which answer, and which cells
module _ (run : List ℕ) (at : ℕ) (s : Loading) (cells : List ℕ) where
  pub load-short : length cells < room s
      → Loads run at s cells cells (Err (BufferShort (room s)))
  unfolding load_answer load_cells
  load-short h = let t = lt-ltb (length cells) (room s) h in record { answers = sym (took _ t refl); cells = sym (took _ t refl) }

  module _ (wide : room s ≤ length cells) {x : Step} (e : step_at run at s ≡ x) where
    pub load_step : {l : List ℕ} → l ≡ loaded_cells s (body_of (frame_at run at) run) cells x
        → Loads run at s cells l x
    unfolding load_answer load_cells
    load_step q =
        let t = le-ltb (length cells) (room s) wide in
        record { answers = sym (passed _ t e); cells = q ∙ sym (passed _ t (ap (loaded_cells s (body_of (frame_at run at) run) cells) e)) }

-- a frame that was taken had room, was taken by the step, and was stored
pub record TookIt (run : List ℕ) (at : ℕ) (s : Loading) (before after : List ℕ) (next : Loading) (end : ℕ) : Type 0 where
  pub wide : room s ≤ length before
  pub step : step_at run at s ≡ taken_step next end
  pub stored : after ≡ body_stored s (body_at run at) before

module _ (run : List ℕ) (at : ℕ) (s : Loading) (before after : List ℕ) (next : Loading) (end : ℕ) (l : Loads run at s before after (taken_step next end)) where
  pub took_it : TookIt run at s before after next end
  unfolding load_answer load_cells
  took_it =
      let p = peel (ltb (length before) (room s)) refused_no (sym l.answers) in
      record {
        wide = ltb-false (length before) (room s) p.0;
        step = p.1;
        stored = l.cells ∙ passed _ p.0 (ap (loaded_cells s (body_at run at) before) p.1);
      }
    where
      refused_no : {r : Refusal} → ◌≡◌ {A = Step} (Err r) (taken_step next end) → ⊥
      refused_no q = let z : ◌≡◌ {A = ℕ} 0 1 = cc in omega arith

  -- the new item is there, the others are as they were
  pub load-adds : Adds s next (body_at run at) before after
  load-adds = stored-adds s run at next end took_it.step before took_it.wide took_it.stored

-- a call that takes no frame leaves the cells as they were
module _ (run : List ℕ) (at : ℕ) (s : Loading) (before after : List ℕ) where
  kept : {x : Step} → loaded_cells s (body_at run at) before x ≡ before → Loads run at s before after x → after ≡ before
  unfolding load_answer load_cells pick
  kept {x} same l = go (ltb (length before) (room s)) l.answers l.cells
    where
      go : (t : Bool) → x ≡ pick t (Err (BufferShort (room s))) (step_at run at s) → after ≡ pick t before (loaded_cells s (body_at run at) before (step_at run at s)) → after ≡ before
      go true a c = c
      go false a c = c ∙ ap (loaded_cells s (body_at run at) before) (sym a) ∙ same

  pub refused-kept : {r : Refusal} → Loads run at s before after (Err r) → after ≡ before
  refused-kept l = kept refl l

  pub end_kept : Loads run at s before after (Ok None) → after ≡ before
  end_kept l = kept refl l

-- so the contract speaks of the decoded sheet
pub with_adds : (run : List ℕ) (at : ℕ) (s : Loading) (before after : List ℕ) (answer : Step) → Loads run at s before after answer → LoadStep run at s before after answer
with_adds run at s before after answer l = record { bytes = l; adds = λ next end e. load-adds run at s before after next end (rw e at l) }
