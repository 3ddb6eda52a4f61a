-- A loop that looks for the first place where a test passes: of a flag, of an answer.
-- Assumes nothing.
use Rattle.std.proofs.Common.{Err, Ok, Result}
use Prim.Native.Nat.{◌+◌, ◌<◌, ◌≤◌, suc, zero, ℕ}
use borrow.Author.Tests.{not-false, not-true}
use mathlib.Core.Bool.{Bool, false, not, true}
use mathlib.Core.Path.{◌∙◌, ◌≡◌, ap, sym}
use native.Mathlib.Decide.{dec_lt}
use native.Mathlib.Omega.{arith}
use Rattle.admission.specs.Replies.{reply_to}
use Rattle.refusals.specs.Refusals.{refusal_number, refusal_place}
use Rattle.refusals.specs.declared.Refusal.{Refusal}
use Rattle.plain.proofs.AnswerLaws.{accepted_of, first_to-next, first_to-stop, refuse_false, refuse_true, then_go, then_keep}
use Rattle.plain.specs.Answer.{Answer, ◌then◌, accepted, first_to, is_accepted, refuse, refused}
use Rattle.sums.proofs.LoopLaws.{any_to_hit, any_to-more}
use Rattle.sums.proofs.TestLaws.{pick-false}
use Rattle.sums.specs.Test.{any_to}

-- a search that has come to its last place
pub at_end : {A B : Type 0} (search : ℕ → B → A) (n i : ℕ) (f : B) {x : A} → i ≤ n → n ≤ i → search i f ≡ x → x ≡ search n f
at_end search n i f a b p = let q : n ≡ i = omega arith in sym (ap (λ (k : ℕ). search k f) q ∙ p)

-- ---- a flag; u is what the test of a turn gave

pub any_found : (n i : ℕ) (f : ℕ → Bool) {u : Bool} → i < n → u ≡ f i → u ≡ true → true ≡ any_to n f
any_found n i f h q e = sym (any_to_hit n i f h (sym q ∙ e))

pub any_turn : (i : ℕ) (f : ℕ → Bool) {u : Bool} → any_to i f ≡ false → u ≡ f i → u ≡ false → any_to (i + 1) f ≡ false
any_turn i f p q e = any_to-more i f p (sym q ∙ e)

-- no test passes from i on
pub any_rest : (n i : ℕ) (f : ℕ → Bool) → i ≤ n → any_to i f ≡ false → ((k : ℕ) → i ≤ k → f k ≡ false) → any_to n f ≡ false
unfolding any_to
any_rest zero i f a p h = let q : i ≡ 0 = omega arith in ap (λ (k : ℕ). any_to k f) (sym q) ∙ p
any_rest (suc n) i f a p h = go (λ l. any_rest n i f l p h) (dec_lt i (suc n))
  where
    go : (i ≤ n → any_to n f ≡ false) → Dec (i < suc n) → any_to (suc n) f ≡ false
    go ih (yes l) = pick-false (f n) true (any_to n f) (h n (omega arith)) ∙ ih (omega arith)
    go ih (no l) = let q : suc n ≡ i = omega arith in ap (λ (k : ℕ). any_to k f) q ∙ p

-- ---- refusals by a test at each place

module _ (t : ℕ → Bool) (number : ℕ) where
  pub first_found : (n i : ℕ) {u : Bool} → i < n → first_to i (λ e. refuse (t e) number e) ≡ accepted → u ≡ t i → u ≡ true → refused number i ≡ first_to n (λ e. refuse (t e) number e)
  first_found n i h p q e = sym (first_to-stop n i (λ e. refuse (t e) number e) number i h p (refuse_true (t i) number i (sym q ∙ e)))

  pub first_turn : (i : ℕ) {u : Bool} → first_to i (λ e. refuse (t e) number e) ≡ accepted → u ≡ t i → u ≡ false → first_to (i + 1) (λ e. refuse (t e) number e) ≡ accepted
  first_turn i p q e = first_to-next i (λ e. refuse (t e) number e) p ∙ refuse_false (t i) number i (sym q ∙ e)

-- ---- answers; u tells whether the answer r of a step is an acceptance

passes : (r : Answer) {u : Bool} → u ≡ is_accepted r → not u ≡ false → r ≡ accepted
passes r {u} q e = accepted_of r (sym q ∙ not-false u e)

pub chain-stop : {a r : Answer} (b : Answer) {u : Bool} → r ≡ a → u ≡ is_accepted r → not u ≡ true → r ≡ (a then b)
chain-stop {a} b {u} p q e = p ∙ sym (then_keep a b (ap is_accepted (sym p) ∙ sym q ∙ not-true u e))

pub chain_go : {a b r s : Answer} {u : Bool} → r ≡ a → u ≡ is_accepted r → not u ≡ false → s ≡ b → s ≡ (a then b)
chain_go {a} {b} {r} {s} p q e w = sym (then_go a b s (sym p ∙ passes r q e) (sym w))

first_not : (n i : ℕ) (f : ℕ → Answer) → i < n → first_to i f ≡ accepted → is_accepted (f i) ≡ false → first_to n f ≡ f i
unfolding first_to
first_not zero i f h p e = absurd (omega arith)
first_not (suc n) i f h p e = go (λ l. first_not n i f l p e) (dec_lt i n)
  where
    go : (i < n → first_to n f ≡ f i) → Dec (i < n) → (first_to n f then f n) ≡ f i
    go ih (yes l) = then_keep (first_to n f) (f n) (ap is_accepted (ih l) ∙ e) ∙ ih l
    go ih (no l) = let q : n ≡ i = omega arith in then_go (first_to n f) (f n) (f i) (ap (λ (k : ℕ). first_to k f) q ∙ p) (ap f q)

pub answer_found : (n i : ℕ) (f : ℕ → Answer) {r : Answer} {u : Bool} → i < n → first_to i f ≡ accepted → r ≡ f i → u ≡ is_accepted r → not u ≡ true → r ≡ first_to n f
answer_found n i f {r} {u} h p w q e = w ∙ sym (first_not n i f h p (ap is_accepted (sym w) ∙ sym q ∙ not-true u e))

pub answer_turn : (i : ℕ) (f : ℕ → Answer) {r : Answer} {u : Bool} → first_to i f ≡ accepted → r ≡ f i → u ≡ is_accepted r → not u ≡ false → first_to (i + 1) f ≡ accepted
answer_turn i f {r} p w q e = first_to-next i f p ∙ sym w ∙ passes r q e

-- ---- the same by what a check returned

module _ {A : Type 0} {c : Result A Refusal} {a : Answer} (p : reply_to c ≡ a) where
  pub turned_away : {r : Refusal} (b : Answer) → c ≡ Err r → refused (refusal_number r) (refusal_place r) ≡ (a then b)
  turned_away b e = let q = ap reply_to (sym e) ∙ p in q ∙ sym (then_keep a b (ap is_accepted (sym q)))

  pub let_pass : {v : A} {b s : Answer} → c ≡ Ok v → s ≡ b → s ≡ (a then b)
  let_pass {b = b} {s = s} e w = sym (then_go a b s (sym p ∙ ap reply_to e) (sym w))

  pub turned_at : {r : Refusal} (n i : ℕ) (f : ℕ → Answer) → i < n → first_to i f ≡ accepted → a ≡ f i → c ≡ Err r → refused (refusal_number r) (refusal_place r) ≡ first_to n f
  turned_at n i f h g w e = let q = ap reply_to (sym e) ∙ p ∙ w in q ∙ sym (first_not n i f h g (ap is_accepted (sym q)))

  pub passed_at : {v : A} (i : ℕ) (f : ℕ → Answer) → first_to i f ≡ accepted → a ≡ f i → c ≡ Ok v → first_to (i + 1) f ≡ accepted
  passed_at i f g w e = first_to-next i f g ∙ sym w ∙ sym p ∙ ap reply_to e

pub accepts : {A : Type 0} {c : Result A Refusal} {v : A} → c ≡ Ok v → true ≡ is_accepted (reply_to c)
accepts {A} e = sym (ap (λ (x : Result A Refusal). is_accepted (reply_to x)) e)

pub refuses : {A : Type 0} {c : Result A Refusal} {r : Refusal} → c ≡ Err r → false ≡ is_accepted (reply_to c)
refuses {A} e = sym (ap (λ (x : Result A Refusal). is_accepted (reply_to x)) e)
