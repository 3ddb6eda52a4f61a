-- Answers: accepted, or a refusal's number and place (document 01, "What the caller gets when a slip or block is turned away").
-- Assumes nothing.
use Rattle.std.specs.Prelude.{suc, zero, ℕ, Bool, false, true}

-- "no byte is left": a call for a frame there is no offer
pub data Answer : Type 0 where
  accepted : Answer
  refused : ℕ → ℕ → Answer
  no_offer : Answer

abbrev pub is_accepted : Answer → Bool
is_accepted accepted = true
is_accepted (refused n p) = false
is_accepted no_offer = false

-- the first of two answers that is not an acceptance
infixr 20 ◌then◌
unfoldable pub ◌then◌ : Answer → Answer → Answer
accepted then b = b
refused n p then b = refused n p
no_offer then b = no_offer

-- number n and place p where the test passes
unfoldable pub refuse : Bool → ℕ → ℕ → Answer
refuse true n p = refused n p
refuse false n p = accepted

-- the first refusal of f 0, .., f (n - 1)
unfoldable pub first_to : ℕ → (ℕ → Answer) → Answer
first_to zero f = accepted
first_to (suc n) f = first_to n f then f n
