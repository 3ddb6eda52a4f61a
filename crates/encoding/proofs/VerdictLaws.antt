-- Which verdict holds, and what a fine one says of the values.
-- Assumes nothing.
use Rattle.std.proofs.Common.{Ok, Err}
use Prim.Native.Nat.{◌≤◌, ℕ}
use borrow.Author.Tests.{eq-eqb, eqb-true, le-ltb, ltb-false, ne_eqb}
use lib.Dec.{eqb, ltb}
use lib.ListN.{length}
use mathlib.Core.Bool.{Bool, false, not, true}
use mathlib.Core.List.{List}
use mathlib.Core.Path.{◌≡◌, ap, refl}
use native.Mathlib.Omega.{arith}
use Rattle.encoding.specs.Body.{cut_ok}
use Rattle.encoding.specs.Verdict.{balances_verdict, block_verdict, header_verdict, transaction_verdict}
use Rattle.frames.proofs.HeaderLaws.{header_bounds}
use Rattle.frames.proofs.StepLaws.{due_header_ok}
use Rattle.frames.specs.Balances.{balances_ok}
use Rattle.frames.specs.Header.{header_ok}
use Rattle.frames.specs.Step.{kind_due}
use Rattle.refusals.proofs.CheckedLaws.{held, not_refused, tested}
use Rattle.sums.proofs.TestLaws.{passed, took}
use Rattle.transactions.specs.Check.{judge_transaction}
use Rattle.transactions.specs.Content.{Transaction}
use Rattle.frames.specs.declared.header.Header.{Header}
use Rattle.frames.specs.declared.step.Loading.{Loading}
use Rattle.refusals.specs.declared.Refusal.TheVariants.{BodyLength, KindNotDue}

-- kind 1
pub record HeaderVerdict (s : Loading) (h : Header) : Type 0 where
  pub due : kind_due s ≡ 1
  pub ok : header_ok h.m h.a h.g h.t ≡ true

pub header-verdict : (s : Loading) (h : Header) → header_verdict s h ≡ Ok tt → HeaderVerdict s h
unfolding header_verdict
header-verdict s h e =
    let p = held (eqb (kind_due s) 1) _ e in
    record { due = eqb-true (kind_due s) 1 p.0; ok = tested (header_ok h.m h.a h.g h.t) _ p.1 }

pub header-verdict_is : (s : Loading) (h : Header) → HeaderVerdict s h → header_verdict s h ≡ Ok tt
unfolding header_verdict
header-verdict_is s h v = passed _ (ap not (eq-eqb _ _ v.due)) (took _ v.ok refl)

-- kind 2
pub record BalancesVerdict (s : Loading) (l : List ℕ) : Type 0 where
  pub due : kind_due s ≡ 2
  pub long : length l ≡ s.a
  pub ok : balances_ok l ≡ true

pub balances-verdict : (s : Loading) (l : List ℕ) → balances_verdict s l ≡ Ok tt → BalancesVerdict s l
unfolding balances_verdict
balances-verdict s l e =
    let p = held (eqb (kind_due s) 2) _ e in
    let q = held (eqb (length l) s.a) _ p.1 in
    record { due = eqb-true (kind_due s) 2 p.0; long = eqb-true (length l) s.a q.0; ok = tested (balances_ok l) _ q.1 }

pub balances-verdict_is : (s : Loading) (l : List ℕ) → BalancesVerdict s l → balances_verdict s l ≡ Ok tt
unfolding balances_verdict
balances-verdict_is s l v = passed _ (ap not (eq-eqb _ _ v.due)) (passed _ (ap not (eq-eqb _ _ v.long)) (took _ v.ok refl))

pub few-balances : (s : Loading) (l : List ℕ) → balances_verdict s l ≡ Ok tt → length l ≤ 1024
few-balances s l e =
    let v = balances-verdict s l e in
    let b = header_bounds s.m s.a s.g s.t (due_header_ok s 2 (omega arith) v.due) in
    omega arith

-- kind 4
pub record BlockVerdict (s : Loading) (cut : List ℕ) (count n : ℕ) : Type 0 where
  pub due : kind_due s ≡ 4
  pub same : n ≡ count
  pub few : count ≤ 32
  pub zeros : cut_ok s.m cut ≡ true

pub block-verdict : (s : Loading) (cut : List ℕ) (count n : ℕ) → block_verdict s cut count n ≡ Ok tt → BlockVerdict s cut count n
unfolding block_verdict
block-verdict s cut count n e =
    let p = held (eqb (kind_due s) 4) _ e in
    let q = held (eqb n count) _ p.1 in
    let r = not_refused (ltb 32 count) _ q.1 in
    record { due = eqb-true (kind_due s) 4 p.0; same = eqb-true n count q.0; few = ltb-false 32 count r.0; zeros = tested (cut_ok s.m cut) _ r.1 }

pub block-verdict_is : (s : Loading) (cut : List ℕ) (count n : ℕ) → BlockVerdict s cut count n → block_verdict s cut count n ≡ Ok tt
unfolding block_verdict
block-verdict_is s cut count n v =
    passed _ (ap not (eq-eqb _ _ v.due))
    (passed _ (ap not (eq-eqb _ _ v.same)) (passed _ (le-ltb _ _ v.few) (took _ v.zeros refl)))

pub instances_at : (s : Loading) → kind_due s ≡ 4 → s.m ≤ 16
instances_at s e = let b = header_bounds s.m s.a s.g s.t (due_header_ok s 4 (omega arith) e) in omega arith

pub few-cites : (s : Loading) (cut : List ℕ) (count n : ℕ) → block_verdict s cut count n ≡ Ok tt → (s.m ≤ 16) × (n ≤ 32)
few-cites s cut count n e =
    let v = block-verdict s cut count n e in
    (instances_at s v.due, omega arith)

-- kind 3
module _ (s : Loading) (agree : Bool) (t : Transaction) where
  pub transaction_not_due : (kind_due s ≡ 3 → ⊥) → transaction_verdict s agree t ≡ Err (KindNotDue 0)
  unfolding transaction_verdict
  transaction_not_due h = took _ (ap not (ne_eqb _ _ h)) refl

  module _ (due : kind_due s ≡ 3) where
    pub transaction-lists : agree ≡ false → transaction_verdict s agree t ≡ Err (BodyLength 0)
    unfolding transaction_verdict
    transaction-lists e = passed _ (ap not (eq-eqb _ _ due)) (took _ (ap not e) refl)

    pub transaction-judged : agree ≡ true → transaction_verdict s agree t ≡ judge_transaction 0 s.a s.g t
    unfolding transaction_verdict
    transaction-judged e = passed _ (ap not (eq-eqb _ _ due)) (passed _ (ap not e) refl)

pub transaction-verdict : (s : Loading) (t : Transaction) → transaction_verdict s true t ≡ Ok tt → (kind_due s ≡ 3) × (judge_transaction 0 s.a s.g t ≡ Ok tt)
unfolding transaction_verdict
transaction-verdict s t e =
    let p = held (eqb (kind_due s) 3) _ e in
    (eqb-true (kind_due s) 3 p.0, (held true _ p.1).1)

-- The writers' verdicts and those of `transaction_kind` and `block_kind`, whose lists are as long as their counts
pub transaction_agreed : (s : Loading) (agree : Bool) (t : Transaction) → transaction_verdict s agree t ≡ Ok tt → transaction_verdict s true t ≡ Ok tt
unfolding transaction_verdict
transaction_agreed s agree t e =
    let p = held (eqb (kind_due s) 3) _ e in
    let q = held agree _ p.1 in
    passed _ (ap not p.0) (passed _ refl q.1)

pub block-counted : (s : Loading) (cut : List ℕ) (count n : ℕ) → block_verdict s cut count n ≡ Ok tt → block_verdict s cut n n ≡ Ok tt
block-counted s cut count n e =
    let v = block-verdict s cut count n e in
    block-verdict_is s cut n n (record { due = v.due; same = refl; few = omega arith; zeros = v.zeros })
