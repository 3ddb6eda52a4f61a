-- Laws of answers: what acceptance says, and turns of a search for the first refusal.
-- Assumes nothing.
use Prim.Native.Nat.{◌+◌, ◌<◌, ◌≤◌, suc, zero, ℕ}
use borrow.Author.Tests.{ltb-false}
use lib.Dec.{ltb}
use lib.ListN.{length}
use mathlib.Core.Bool.{Bool, false, true}
use mathlib.Core.List.{List, [], ◌++◌, ◌∷◌}
use mathlib.Core.Logic.{inl, inr}
use mathlib.Core.Path.{◌∙◌, ◌≡◌, ap, ap₂, refl}
use native.Mathlib.Decide.{dec_lt}
use native.Mathlib.Nat.{eq-or-lt_of_le}
use native.Mathlib.Numerals.{add-one}
use native.Mathlib.Omega.{arith}
use Rattle.escrow.specs.Outcome.{History}
use Rattle.plain.specs.Answer.{Answer, ◌then◌, accepted, first_to, is_accepted, no_offer, refuse, refused}
use Rattle.plain.specs.Plain.{answer, lent_answer}
use Rattle.plain.specs.Offers.{Offer, lent_of, offer_needs}
use Rattle.sheets.specs.Sheet.{Sheet}

refused_not : (n p : ℕ) → refused n p ≡ accepted → ⊥
refused_not n p e = let z : ◌≡◌ {A = ℕ} 0 1 = cc in omega arith

idle_not : no_offer ≡ accepted → ⊥
idle_not e = let z : ◌≡◌ {A = ℕ} 0 1 = cc in omega arith

pub then_pass : (a b : Answer) → (a then b) ≡ accepted → (a ≡ accepted) × (b ≡ accepted)
unfolding ◌then◌
then_pass accepted b e = (refl, e)
then_pass (refused n p) b e = absurd (refused_not n p e)
then_pass no_offer b e = absurd (idle_not e)

pub refuse_pass : (t : Bool) (n p : ℕ) → refuse t n p ≡ accepted → t ≡ false
unfolding refuse
refuse_pass true n p e = absurd (refused_not n p e)
refuse_pass false n p e = refl

pub first_to_pass : (n : ℕ) (f : ℕ → Answer) → first_to n f ≡ accepted → (i : ℕ) → i < n → f i ≡ accepted
unfolding first_to
first_to_pass zero f e i l = absurd (omega arith)
first_to_pass (suc n) f e i l =
    let (a, b) = then_pass (first_to n f) (f n) e in
    elim (eq-or-lt_of_le l) [ inl q ↦ ap f (let q' : i ≡ n = omega arith in q') ∙ b | inr u ↦ first_to_pass n f a i (omega arith) ]

pub accepted_of : (a : Answer) → is_accepted a ≡ true → a ≡ accepted
accepted_of accepted e = refl
accepted_of (refused n p) e = cc
accepted_of no_offer e = cc

-- ---- the test of a branch

pub refuse_true : (t : Bool) (n p : ℕ) → t ≡ true → refuse t n p ≡ refused n p
unfolding refuse
refuse_true t n p e = rw e

pub refuse_false : (t : Bool) (n p : ℕ) → t ≡ false → refuse t n p ≡ accepted
unfolding refuse
refuse_false t n p e = rw e

-- past a test that passes nothing, and at one that refuses
pub then_go : (a b c : Answer) → a ≡ accepted → b ≡ c → (a then b) ≡ c
unfolding ◌then◌
then_go a b c e q = rw e q

pub then_stop : (a b : Answer) (n p : ℕ) → a ≡ refused n p → (a then b) ≡ refused n p
unfolding ◌then◌
then_stop a b n p e = rw e

-- what is not accepted ends a chain, and no chain that ends so is accepted
pub then_keep : (a b : Answer) → is_accepted a ≡ false → (a then b) ≡ a
unfolding ◌then◌
then_keep accepted b e = cc
then_keep (refused n p) b e = refl
then_keep no_offer b e = refl

pub then_not : (a b : Answer) → is_accepted b ≡ false → is_accepted (a then b) ≡ false
unfolding ◌then◌
then_not accepted b e = e
then_not (refused n p) b e = refl
then_not no_offer b e = refl

-- answers one after the other
pub then_assoc : (a b c : Answer) → ((a then b) then c) ≡ (a then (b then c))
unfolding ◌then◌
then_assoc accepted b c = refl
then_assoc (refused n p) b c = refl
then_assoc no_offer b c = refl

pub then_accepted : (a : Answer) → (a then accepted) ≡ a
unfolding ◌then◌
then_accepted accepted = refl
then_accepted (refused n p) = refl
then_accepted no_offer = refl

-- ---- a search, turn by turn

pub first_to_zero : (f : ℕ → Answer) → first_to 0 f ≡ accepted
unfolding first_to
first_to_zero f = refl

pub first_to-next : (n : ℕ) (f : ℕ → Answer) → first_to n f ≡ accepted → first_to (n + 1) f ≡ f n
unfolding first_to ◌then◌
first_to-next n f e = rw (add-one, e)

pub first_to-stop : (n k : ℕ) (f : ℕ → Answer) (c p : ℕ) → k < n → first_to k f ≡ accepted → f k ≡ refused c p → first_to n f ≡ refused c p
unfolding first_to ◌then◌
first_to-stop zero k f c p l e r = absurd (omega arith)
first_to-stop (suc n) k f c p l e r = go (λ h. first_to-stop n k f c p h e r) (dec_lt k n)
  where
    go : (k < n → first_to n f ≡ refused c p) → Dec (k < n) → (first_to n f then f n) ≡ refused c p
    go ih (yes h) = rw (ih h)
    go ih (no h) = let s : k ≡ n = omega arith in rw (← s, e, r)

-- ---- the same answers from the same tests

pub then_ext : (a a' b b' : Answer) → a ≡ a' → (a' ≡ accepted → b ≡ b') → (a then b) ≡ (a' then b')
unfolding ◌then◌
then_ext a accepted b b' e h = ap (λ (x : Answer). x then b) e ∙ h refl
then_ext a (refused n p) b b' e h = ap (λ (x : Answer). x then b) e
then_ext a no_offer b b' e h = ap (λ (x : Answer). x then b) e

pub first_to_ext : (n : ℕ) (f g : ℕ → Answer) → ((i : ℕ) → i < n → f i ≡ g i) → first_to n f ≡ first_to n g
unfolding first_to
first_to_ext zero f g h = refl
first_to_ext (suc n) f g h = ap₂ ◌then◌ (first_to_ext n f g (λ i l. h i (omega arith))) (h n (omega arith))

-- ---- no 16: every lent buffer is long enough

pub lent_enough : (n k : ℕ) (needs lent : List ℕ) → lent_answer (n ∷ needs) (k ∷ lent) ≡ accepted → (n ≤ k) × (lent_answer needs lent ≡ accepted)
unfolding lent_answer
lent_enough n k needs lent e =
    let (a, b) = then_pass _ _ e in
    (ltb-false k n (refuse_pass (ltb k n) 16 n a), b)

-- the first buffers that are too short settle the answer
pub lent-front : (needs lent needs' lent' : List ℕ) → length needs ≡ length lent → is_accepted (lent_answer needs lent) ≡ false → lent_answer (needs ++ needs') (lent ++ lent') ≡ lent_answer needs lent
unfolding lent_answer refuse ◌then◌
lent-front [] lent needs' lent' e few = cc
lent-front (n ∷ needs) [] needs' lent' e few = absurd (omega arith)
lent-front (n ∷ needs) (k ∷ lent) needs' lent' e few = go (λ h. lent-front needs lent needs' lent' (omega arith) h) (ltb k n) few
  where
    go : (is_accepted (lent_answer needs lent) ≡ false → lent_answer (needs ++ needs') (lent ++ lent') ≡ lent_answer needs lent)
        → (t : Bool) → is_accepted (refuse t 16 n then lent_answer needs lent) ≡ false → (refuse t 16 n then lent_answer (needs ++ needs') (lent ++ lent')) ≡ (refuse t 16 n then lent_answer needs lent)
    go rest true few = refl
    go rest false few = rest few

pub offer-lent : (S : Sheet) (H : History) (o : Offer) → answer S H o ≡ accepted → lent_answer (offer_needs S) (lent_of o) ≡ accepted
unfolding answer
offer-lent S H o e = (then_pass _ _ (then_pass _ _ e).1).0
