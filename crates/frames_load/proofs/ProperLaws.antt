-- Every frame that is taken keeps a sheet proper as far as it goes; so a sheet that calls of `load` completed is proper.
-- Assumes nothing.
use Rattle.std.proofs.Common.{Ok}
use Prim.Native.Nat.{◌+◌, ◌<◌, ◌≤◌, ℕ}
use lib.ListN.{get_or-append, get_or, length}
use lib.Seq.{get_or-append-add}
use mathlib.Core.Bool.{true}
use mathlib.Core.List.{List, [], ◌++◌, ◌∷◌}
use mathlib.Core.Logic.{◌⊎◌, inl, inr, ⊎_elim}
use mathlib.Core.Path.{◌∙◌, ◌≡◌, ap, refl}
use native.Mathlib.Nat.{eq-or-lt_of_le}
use native.Mathlib.Omega.{arith}
use Rattle.frames.proofs.StepLaws.{after-balances, after_block, after-header, after-transaction, due_four, due_header_ok, due_late, due_three, judged-kind, took_judged}
use Rattle.frames.specs.Balances.{balances_ok}
use Rattle.frames.specs.Frame.{body_at}
use Rattle.frames.specs.Header.{header_of, header_ok}
use Rattle.sheets.specs.Sheet.{Sheet, balance_in, sheet_from, slot_from, transaction_in}
use Rattle.frames.specs.Step.{header_loaded, kind_due, loading_after, step_at, taken_step}
use Rattle.frames_load.proofs.LoadLaws.{length_stored, load-adds, room_is, took_balances, took_header, took_it, took_judgement}
use Rattle.frames_load.specs.Load.{Loads, sheet_so_far, with_balances}
use Rattle.frames_load.specs.Proper.{CompleteSheet, IsComplete, Loaded, ProperSoFar}
use Rattle.sheets.proofs.ProperLaws.{proper_so}
use Rattle.sums.proofs.SeqLaws.{length-tabulate}
use Rattle.transactions.specs.Body.{transaction_of}
use Rattle.transactions.specs.Check.{judge_transaction}
use Rattle.transactions.specs.Content.{Transaction, no_transaction}
use Rattle.frames.specs.declared.step.Loading.{Loading}

-- each kind of frame
fresh_so_far : (s : Loading) (S : Sheet) → s.stage ≡ 0 → ProperSoFar s S
fresh_so_far s S e = record {
  header = λ h. absurd (one h);
  count = λ h. absurd (two h);
  balances = λ h. absurd (two h);
  transactions = λ h. absurd (two h);
}
  where
    one : 1 ≤ s.stage → ⊥
    one h = omega arith

    two : 2 ≤ s.stage → ⊥
    two h = omega arith

never : 2 ≤ 1 → ⊥
never h = omega arith

none : (x : ℕ) → x < 0 → ⊥
none x h = omega arith

header_so_far : (b : List ℕ) (S : Sheet) → header_ok (header_of b).m (header_of b).a (header_of b).g (header_of b).t ≡ true → ProperSoFar (header_loaded b) S
unfolding header_loaded header_of
header_so_far b S ok = record {
  header = λ h. ok;
  count = λ h. absurd (never h);
  balances = λ h. absurd (never h);
  transactions = λ h. absurd (never h);
}

balances_so_far : (s : Loading) (S : Sheet) → header_ok s.m s.a s.g s.t ≡ true → balances_ok S.balances ≡ true
    → ProperSoFar (record { m = s.m; a = s.a; g = s.g; t = s.t; stage = 2; loaded = 0 }) S
balances_so_far s S ok fits = record {
  header = λ h. ok;
  count = λ h. omega arith;
  balances = λ h. fits;
  transactions = λ h x l. absurd (none x l);
}

-- one transaction more
transactions-more : (a g n : ℕ) (l : List Transaction) (t : Transaction) → length l ≡ n → ((x : ℕ) → x < n → judge_transaction 0 a g (get_or l x no_transaction) ≡ Ok tt)
    → judge_transaction 0 a g t ≡ Ok tt → (x : ℕ) → x < n + 1 → judge_transaction 0 a g (get_or (l ++ (t ∷ [])) x no_transaction) ≡ Ok tt
transactions-more a g n l t e olds new x h =
    ⊎_elim
    (λ (q : x ≡ n).
    let last : x ≡ length l + 0 = omega arith in
    rw last (rw (get_or-append-add l (t ∷ []) 0 no_transaction) new))
    (λ lt. rw (get_or-append l (t ∷ []) no_transaction x (omega arith)) (olds x lt))
    (eq-or-lt_of_le (le-of-lt-one x n h))
  where
    le-of-lt-one : (x n : ℕ) → x < n + 1 → x ≤ n
    le-of-lt-one x n h = omega arith

length_so_far : (s : Loading) (cells : List ℕ) → length (sheet_so_far s cells).transactions ≡ s.loaded
unfolding sheet_so_far sheet_from
length_so_far s cells = length-tabulate s.loaded (transaction_in s.a cells)

-- a frame that was taken
module _ (run : List ℕ) (at : ℕ) (s : Loading) (before after : List ℕ) (next : Loading) (end : ℕ) (l : Loads run at s before after (taken_step next end))
    (so_far : ProperSoFar s (sheet_so_far s before)) where
  B : List ℕ
  B = body_at run at

  step : step_at run at s ≡ taken_step next end
  step = (took_it run at s before after next end l).step

  next_is : next ≡ loading_after s (kind_due s) (body_at run at)
  next_is = (took_judged s run at next end step).1

  by_kind : (kind_due s ≡ 1) ⊎ ((kind_due s ≡ 2) ⊎ ((kind_due s ≡ 3) ⊎ (kind_due s ≡ 4))) → ProperSoFar next (sheet_so_far next after)
  by_kind (inl e) = rw (next_is ∙ after-header s (kind_due s) (body_at run at) e) (header_so_far (body_at run at) _ (took_header s run at next end step e))
  by_kind (inr (inl e)) =
      rw ((load-adds run at s before after next end l).balances e, next_is ∙ after-balances s (kind_due s) (body_at run at) e)
      (balances_so_far s (with_balances s (body_at run at)) (due_header_ok s 2 (omega arith) e) (took_balances s run at next end step e).1)
  by_kind (inr (inr (inl e))) =
      let late = due_late s 3 (omega arith) e in
      let l3 = due_three s e in
      rw ((load-adds run at s before after next end l).transaction e, next_is ∙ after-transaction s (kind_due s) (body_at run at) e l3)
      (record {
        header = λ h. so_far.header (omega arith);
        count = λ h. omega arith;
        balances = λ h. so_far.balances late;
        transactions = λ h. transactions-more s.a s.g s.loaded (sheet_so_far s before).transactions (transaction_of (body_at run at)) (length_so_far s before) (so_far.transactions late) (took_judgement s run at next end step e);
      })
  by_kind (inr (inr (inr e))) =
      let k = (load-adds run at s before after next end l).block e in
      rw (k.0, k.1) so_far

  -- so far proper, and after the step so far proper
  pub load-proper : ProperSoFar next (sheet_so_far next after)
  load-proper = by_kind (judged-kind s (kind_due s) (body_at run at) at (took_judged s run at next end step).0)

-- once the balances were taken there is room for the whole sheet
module _ (run : List ℕ) (at : ℕ) (s : Loading) (before after : List ℕ) (next : Loading) (end : ℕ) (l : Loads run at s before after (taken_step next end)) where
  same_room : (k : ℕ) → 2 ≤ k → kind_due s ≡ k → next.a ≡ s.a → next.t ≡ s.t → slot_from next.a next.t ≤ length after
  same_room k h e a t =
      let T = took_it run at s before after next end l in
      let long : length after ≡ length before = ap length T.stored ∙ length_stored s (body_at run at) before in
      rw (a, t) (omega (arith, T.wide, room_is s k h e, long))

  pub load-room : 2 ≤ next.stage → slot_from next.a next.t ≤ length after
  unfolding header_loaded
  load-room late =
      let J = took_judged s run at next end (took_it run at s before after next end l).step in
      by_kind J.1 (judged-kind s (kind_due s) (body_at run at) at J.0)
    where
      by_kind : next ≡ loading_after s (kind_due s) (body_at run at) → (kind_due s ≡ 1) ⊎ ((kind_due s ≡ 2) ⊎ ((kind_due s ≡ 3) ⊎ (kind_due s ≡ 4))) → slot_from next.a next.t ≤ length after
      by_kind is (inl e) = absurd (omega (arith, late, ap (λ (n : Loading). n.stage) (is ∙ after-header s (kind_due s) (body_at run at) e)))
      by_kind is (inr (inl e)) =
          let q = is ∙ after-balances s (kind_due s) (body_at run at) e in
          same_room 2 (omega arith) e (ap (λ (n : Loading). n.a) q) (ap (λ (n : Loading). n.t) q)
      by_kind is (inr (inr (inl e))) =
          let q = is ∙ after-transaction s (kind_due s) (body_at run at) e (due_three s e) in
          same_room 3 (omega arith) e (ap (λ (n : Loading). n.a) q) (ap (λ (n : Loading). n.t) q)
      by_kind is (inr (inr (inr e))) =
          let q = is ∙ after_block s (kind_due s) (body_at run at) e in
          same_room 4 (omega arith) e (ap (λ (n : Loading). n.a) q) (ap (λ (n : Loading). n.t) q)

-- so it holds of every state that calls of `load` reach
pub loaded_proper : {s : Loading} {cells : List ℕ} → Loaded s cells → ProperSoFar s (sheet_so_far s cells)
loaded_proper {s} {cells} (Loaded.fresh e) = fresh_so_far s (sheet_so_far s cells) e
loaded_proper (Loaded.more {s} {next} {before} {after} run at end h l) = load-proper run at s before after next end l (loaded_proper h)

-- a sheet that loading completed is proper, and has t transactions
pub so_far_complete : (s : Loading) (cells : List ℕ) → ProperSoFar s (sheet_so_far s cells) → IsComplete s → CompleteSheet s (sheet_so_far s cells)
unfolding sheet_so_far sheet_from
so_far_complete s cells p e =
    let late = due_late s 4 (omega arith) e in
    let full = due_four s e in
    let many : length (sheet_so_far s cells).transactions ≡ s.t = length_so_far s cells ∙ full in
    record {
      proper = proper_so (sheet_so_far s cells) (ap (header_ok s.m s.a s.g) many ∙ p.header (omega arith)) (length-tabulate s.a (balance_in cells)) (p.balances late)
          (λ x lt. (0, p.transactions late x (omega (arith, length_so_far s cells))));
      instances = refl;
      accounts = refl;
      registers = refl;
      count = many;
    }

pub loaded_complete : (s : Loading) (cells : List ℕ) → Loaded s cells → IsComplete s → CompleteSheet s (sheet_so_far s cells)
loaded_complete s cells h e = so_far_complete s cells (loaded_proper h) e
