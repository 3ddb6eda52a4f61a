-- What is left of an option that is not Some; and a check is a chain of tests, each with its refusal: what a fine one says, test by test.
-- Assumes nothing.
use Rattle.std.proofs.Common.{Err, None, Ok, Option, refl, Result, Some}
use Prim.Native.Nat.{ℕ}
use borrow.Author.Tests.{not-false}
use mathlib.Core.Bool.{Bool, false, not, true}
use mathlib.Core.Path.{◌≡◌}
use native.Mathlib.Omega.{arith}
use Rattle.sums.proofs.TestLaws.{first_taken, peel}
use Rattle.sums.specs.Test.{pick}
use Rattle.refusals.specs.Refusals.{Checked}
use Rattle.refusals.specs.declared.Refusal.{Refusal}

pub refused_not_fine : {r : Refusal} → ◌≡◌ {A = Checked} (Err r) (Ok tt) → ⊥
refused_not_fine q = let z : ◌≡◌ {A = ℕ} 0 1 = cc in omega arith

-- a test that refuses did not pass
pub not_refused : (t : Bool) (r : Refusal) {v : Checked} → pick t (Err r) v ≡ Ok tt → (t ≡ false) × (v ≡ Ok tt)
not_refused t r e = peel t refused_not_fine e

-- a test without which it refuses passed
pub held : (t : Bool) (r : Refusal) {v : Checked} → pick (not t) (Err r) v ≡ Ok tt → (t ≡ true) × (v ≡ Ok tt)
held t r e = let p = peel (not t) refused_not_fine e in (not-false t p.0, p.1)

-- the last test passed
pub tested : (t : Bool) (r : Refusal) → ◌≡◌ {A = Checked} (pick t (Ok tt) (Err r)) (Ok tt) → t ≡ true
tested t r e = first_taken t (Ok tt) refused_not_fine e

pub none_left : {A : Type 0} (o : Option A) → ((x : A) → o ≡ Some x → ⊥) → o ≡ None
none_left (Some x) n = absurd (n x refl)
none_left None n = refl

-- an answer that is taken apart in two steps
pub ok_is : {A : Type 0} {r : Result A Refusal} {o p : A} → r ≡ Ok o → o ≡ p → r ≡ Ok p
ok_is e f = rw f at e
