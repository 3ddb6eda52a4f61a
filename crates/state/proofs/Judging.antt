-- Judging a stored block's places one after the other: each outcome is as its view judges it at the end, and the old ones stay.
-- Assumes nothing.
use Prim.Native.Nat.{◌*◌, ◌+◌, ◌<◌, ◌≤◌, suc, zero, ℕ}
use lib.Dec.{eqb}
use lib.ListN.{length, length-set}
use lib.Seq.{get_or-set_other, get_or-set_same}
use mathlib.Core.Bool.{Bool, false, true}
use mathlib.Core.Logic.{◌≢◌, inl, inr}
use mathlib.Core.Path.{◌∙◌, ◌≡◌, ap, refl, sym}
use native.Mathlib.Decide.{ℕ_discrete}
use native.Mathlib.Nat.{eq-or-lt_of_le}
use native.Mathlib.Omega.{arith}
use Rattle.escrow.proofs.Outcomes.{judge_view, view_of_own}
use Rattle.escrow.specs.Outcome.{History, citation, judge, view_of}
use Rattle.state.specs.Cells.{Cells, judged_in, past_in}
use Rattle.sums.specs.Fold.{fold_to}
use Rattle.sums.specs.Test.{bit}
use Rattle.state.proofs.Engine.{engine_in}
use Rattle.sheets.specs.Sheet.{Sheet}

one_bit : (t : Bool) → eqb (bit t) 1 ≡ t
one_bit true = refl
one_bit false = refl

module _ (S : Sheet) (D : Cells) (i p : ℕ) where
  -- only outcomes change
  past_same : (engine_in (judged_in S i p D)).past ≡ (engine_in D).past
  unfolding past_in judged_in
  past_same = refl

  length_same : length (judged_in S i p D).good ≡ length D.good
  unfolding judged_in
  length_same = length-set D.good (i * 4096 + p) _

  flag_set : i * 4096 + p < length D.good → (engine_in (judged_in S i p D)).flag (citation i p) ≡ judge S (engine_in D).past (engine_in D).flag (citation i p)
  unfolding past_in judged_in
  flag_set l = ap (λ (n : ℕ). eqb n 1) (get_or-set_same D.good (i * 4096 + p) _ 0 l) ∙ one_bit _

  flag_other : (j p' : ℕ) → p < 4096 → p' < 4096 → (j ≡ i → p' ≢ p) → (engine_in (judged_in S i p D)).flag (citation j p') ≡ (engine_in D).flag (citation j p')
  unfolding past_in judged_in
  flag_other j p' l l' h = ap (λ (n : ℕ). eqb n 1) (get_or-set_other D.good (i * 4096 + p) (j * 4096 + p') _ 0 (λ z. h (omega arith) (omega arith)))

module _ (S : Sheet) (some : 0 < S.m) (D : Cells) (i h : ℕ) (there : i < S.m) (space : h < 128) (room : 4096 * S.m ≤ length D.good)
    (bound : (q j : ℕ) → q < 32 → j < S.m → j ≢ i → view_of (engine_in D).past i (h * 32 + q) j ≤ 4096) where
  after : ℕ → Cells
  after n = fold_to n (λ q. judged_in S i (h * 32 + q)) D

  past_after : (n : ℕ) → (engine_in (after n)).past ≡ (engine_in D).past
  unfolding after fold_to
  past_after zero = refl
  past_after (suc n) = past_same S (after n) i (h * 32 + n) ∙ past_after n

  length-after : (n : ℕ) → length (after n).good ≡ length D.good
  unfolding after fold_to
  length-after zero = refl
  length-after (suc n) = length_same S (after n) i (h * 32 + n) ∙ length-after n

  -- outcomes before the block's places, and of other instances, stay
  flag_after : (n j p : ℕ) → n ≤ 32 → p < 4096 → (j ≡ i → p < h * 32) → (engine_in (after n)).flag (citation j p) ≡ (engine_in D).flag (citation j p)
  unfolding after fold_to
  flag_after zero j p l u w = refl
  flag_after (suc n) j p l u w = flag_other S (after n) i (h * 32 + n) j p (omega arith) u (λ q z. absurd (omega (arith, w q))) ∙ flag_after n j p (omega arith) u w

  -- a later judgement is in no earlier view
  judge_later : (n q : ℕ) → n < 32 → q ≤ n
      → judge S (engine_in D).past (engine_in (after (suc n))).flag (citation i (h * 32 + q)) ≡ judge S (engine_in D).past (engine_in (after n)).flag (citation i (h * 32 + q))
  unfolding after fold_to
  judge_later n q l k =
      judge_view S some (engine_in D).past _ _ (citation i (h * 32 + q))
      (λ j p u w. flag_other S (after n) i (h * 32 + n) j p (omega arith) (inside j p u w (ℕ_discrete j i)) (λ e z. own j p e w z))
    where
      inside : (j p : ℕ) → j < S.m → p < view_of (engine_in D).past i (h * 32 + q) j → Dec (j ≡ i) → p < 4096
      inside j p u w (yes e) = omega (arith, w, ap (view_of (engine_in D).past i (h * 32 + q)) e, view_of_own (engine_in D).past i (h * 32 + q))
      inside j p u w (no e) = omega (arith, w, bound q j (omega arith) u e)

      own : (j p : ℕ) → j ≡ i → p < view_of (engine_in D).past i (h * 32 + q) j → p ≢ h * 32 + n
      own j p e w z = omega (arith, w, ap (view_of (engine_in D).past i (h * 32 + q)) e, view_of_own (engine_in D).past i (h * 32 + q))

  judged-after : (n q : ℕ) → n ≤ 32 → q < n
      → (engine_in (after n)).flag (citation i (h * 32 + q)) ≡ judge S (engine_in D).past (engine_in (after n)).flag (citation i (h * 32 + q))
  judged-after zero q l u = absurd (omega arith)
  judged-after (suc n) q l u = elim (eq-or-lt_of_le u) [
    | inl e ↦ rw (let e' : q ≡ n = omega arith in e') (new n l ∙ sym (judge_later n n l (omega arith)))
    | inr w ↦ old n q l (omega arith) ∙ judged-after n q (omega arith) (omega arith) ∙ sym (judge_later n q l (omega arith))
  ]
    where
      new : (n : ℕ) → n < 32 → (engine_in (after (suc n))).flag (citation i (h * 32 + n)) ≡ judge S (engine_in D).past (engine_in (after n)).flag (citation i (h * 32 + n))
      new n l =
          unfold after fold_to in (flag_set S (after n) i (h * 32 + n) (omega (arith, length-after n))
          ∙ ap (λ (H : History). judge S H (engine_in (after n)).flag (citation i (h * 32 + n))) (past_after n))

      old : (n q : ℕ) → n < 32 → q < n → (engine_in (after (suc n))).flag (citation i (h * 32 + q)) ≡ (engine_in (after n)).flag (citation i (h * 32 + q))
      old n q l u = unfold after fold_to in flag_other S (after n) i (h * 32 + n) i (h * 32 + q) (omega arith) (omega arith) (λ e z. omega arith)

  pub judging_past : (engine_in (fold_to 32 (λ q. judged_in S i (h * 32 + q)) D)).past ≡ (engine_in D).past
  unfolding after
  judging_past = past_after 32

  pub judging_old : (j p : ℕ) → p < 4096 → (j ≡ i → p < h * 32) → (engine_in (fold_to 32 (λ q. judged_in S i (h * 32 + q)) D)).flag (citation j p) ≡ (engine_in D).flag (citation j p)
  unfolding after
  judging_old j p u w = flag_after 32 j p (omega arith) u w

  pub judging_new : (q : ℕ) → q < 32
      → (engine_in (fold_to 32 (λ q. judged_in S i (h * 32 + q)) D)).flag (citation i (h * 32 + q))
      ≡ judge S (engine_in D).past (engine_in (fold_to 32 (λ q. judged_in S i (h * 32 + q)) D)).flag (citation i (h * 32 + q))
  unfolding after
  judging_new q u = judged-after 32 q (omega arith) u
