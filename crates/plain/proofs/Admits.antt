-- What a block that gets no refusal from 8 on meets.
-- Assumes nothing.
use Prim.Native.Nat.{◌*◌, ◌+◌, ◌<◌, ◌≤◌, ℕ}
use borrow.Author.Tests.{eqb-false, eqb-true, leb-false, ltb-false, not-false}
use lib.Dec.{eqb, leb}
use lib.ListN.{get_or, length}
use mathlib.Core.Bool.{Bool, false, true}
use mathlib.Core.Logic.{◌≢◌}
use mathlib.Core.Path.{◌≡◌}
use native.Mathlib.Omega.{arith}
use Rattle.escrow.specs.Outcome.{History}
use Rattle.plain.proofs.AnswerLaws.{first_to_pass, refuse_pass, then_pass}
use Rattle.plain.specs.Answer.{accepted}
use Rattle.plain.specs.Plain.{block_answer, cite_answer, cited_before, entry_off, last_entry, last_rank}
use Rattle.sums.proofs.TestLaws.{any_to_false, peel}
use Rattle.sums.specs.Test.{any_to, pick}
use Rattle.plain.specs.Logs.{Values}
use Rattle.sheets.specs.Parts.{has_part}
use Rattle.sheets.specs.Sheet.{tx_count, Sheet}
use Rattle.settlement.specs.View.{no_cite}

pub record Admits (S : Sheet) (H : History) (b : Values) : Type 0 where
  pub there : b.instance < S.m
  pub room : H.height b.instance < 128
  pub due : b.number ≡ H.height b.instance + 1
  pub above : last_rank H b.instance < b.rank
  pub cut_in : (e : ℕ) → e < S.m → get_or b.cut e 0 ≤ H.height e
  pub cut_up : (e : ℕ) → e < S.m → last_entry H b.instance e ≤ get_or b.cut e 0
  pub known : (q : ℕ) → q < length b.cites → get_or b.cites q no_cite < tx_count S
  pub part : (q : ℕ) → q < length b.cites → has_part S (get_or b.cites q no_cite) b.instance ≡ true
  pub fresh : (q p : ℕ) → q < length b.cites → p < H.height b.instance * 32 → H.cell b.instance p ≢ get_or b.cites q no_cite
  pub apart : (q q' : ℕ) → q < length b.cites → q' < q → get_or b.cites q' no_cite ≢ get_or b.cites q no_cite

else_false : (t c : Bool) → pick t true c ≡ false → (t ≡ false) × (c ≡ false)
else_false t c e = peel t (λ (q : ◌≡◌ {A = Bool} true false). let z : ◌≡◌ {A = ℕ} 0 1 = cc in omega arith) e

pub admitted : (S : Sheet) (H : History) (b : Values) → block_answer S H b ≡ accepted → Admits S H b
unfolding block_answer entry_off cite_answer cited_before
admitted S H b e =
    let (t8, e1) = then_pass _ _ e in
    let (t17, e2) = then_pass _ _ e1 in
    let (t9, e3) = then_pass _ _ e2 in
    let (t10, e4) = then_pass _ _ e3 in
    let (t11, e5) = then_pass _ _ e4 in
    let (t12, t13) = then_pass _ _ e5 in
    record {
      there = leb-false S.m b.instance (refuse_pass _ _ _ t8);
      room = leb-false 128 (H.height b.instance) (refuse_pass _ _ _ t17);
      due = eqb-true _ _ (not-false _ (refuse_pass _ _ _ t9));
      above = leb-false _ _ (refuse_pass _ _ _ t10);
      cut_in = λ e l. ltb-false (H.height e) (get_or b.cut e 0) (refuse_pass _ _ _ (first_to_pass S.m _ t12 e l));
      cut_up = λ e l. ltb-false _ _ (else_false _ _ (refuse_pass _ _ _ (first_to_pass S.m _ t11 e l))).1;
      known = λ q l. leb-false _ _ (at q (first_to_pass (length b.cites) _ t13 q l)).0;
      part = λ q l. (at q (first_to_pass (length b.cites) _ t13 q l)).1;
      fresh = λ q p l u. eqb-false (H.cell b.instance p) (get_or b.cites q no_cite) (any_to_false _ _ (at q (first_to_pass (length b.cites) _ t13 q l)).2 p u);
      apart = λ q q' l u. eqb-false (get_or b.cites q' no_cite) (get_or b.cites q no_cite) (any_to_false q _ (at q (first_to_pass (length b.cites) _ t13 q l)).3 q' u);
    }
  where
    at : (q : ℕ) → cite_answer S H b q ≡ accepted
        → (leb (tx_count S) (get_or b.cites q no_cite) ≡ false) × (has_part S (get_or b.cites q no_cite) b.instance ≡ true)
        × (any_to (H.height b.instance * 32) (λ p. eqb (H.cell b.instance p) (get_or b.cites q no_cite)) ≡ false)
        × (any_to q (λ q'. eqb (get_or b.cites q' no_cite) (get_or b.cites q no_cite)) ≡ false)
    at q e =
        let (t13, e1) = then_pass _ _ e in
        let (t14, t15) = then_pass _ _ e1 in
        let (a, c) = else_false _ _ (refuse_pass _ _ _ t15) in
        (refuse_pass _ _ _ t13, not-false _ (refuse_pass _ _ _ t14), a, c)
