-- The balances' test in the terms of the code, and what their check says.
-- Assumes nothing.
use Rattle.std.proofs.Common.{Ok}
use Prim.Native.Nat.{◌*◌, ◌<◌, ◌≤◌, ℕ}
use borrow.Author.Tests.{eq-eqb, eqb-true, leb-true}
use lib.Dec.{eqb, leb}
use lib.ListN.{get_or, length}
use mathlib.Core.Bool.{not, true}
use mathlib.Core.List.{List}
use mathlib.Core.Path.{◌≡◌, ap, refl}
use Rattle.fields.specs.Number.{le}
use Rattle.frames.specs.Balances.{balances_of, balances_ok, check_balances}
use Rattle.refusals.proofs.CheckedLaws.{held, tested}
use Rattle.sums.proofs.SeqLaws.{length-tabulate, tabulate_each}
use Rattle.sums.proofs.TestLaws.{all_to_ext, all_to_true, passed, took}
use Rattle.sums.specs.Test.{all_to}

pub fits_same : (a : ℕ) (b : List ℕ) → balances_ok (balances_of a b) ≡ all_to a (λ k. leb (le 8 b (8 * k)) 1099511627776)
unfolding balances_ok balances_of
fits_same a b = tabulate_each 0 a (λ k. le 8 b (8 * k)) all_to all_to_ext (λ n. leb n 1099511627776)

pub balances_fine : (b : List ℕ) (at a : ℕ) → length b ≡ 8 * a → balances_ok (balances_of a b) ≡ true → check_balances b at a ≡ Ok tt
unfolding check_balances
balances_fine b at a e ok = passed _ (ap not (eq-eqb _ _ e)) (took _ ok refl)

pub balances_checked : (b : List ℕ) (at a : ℕ) → check_balances b at a ≡ Ok tt → (length b ≡ 8 * a) × (balances_ok (balances_of a b) ≡ true)
unfolding check_balances
balances_checked b at a e = let p = held (eqb (length b) (8 * a)) _ e in (eqb-true (length b) (8 * a) p.0, tested (balances_ok (balances_of a b)) _ p.1)

-- each balance is at most 2^40
pub balances_each : (l : List ℕ) → balances_ok l ≡ true → (k : ℕ) → k < length l → get_or l k 0 ≤ 1099511627776
unfolding balances_ok
balances_each l e k h = leb-true (get_or l k 0) 1099511627776 (all_to_true (length l) (λ i. leb (get_or l i 0) 1099511627776) e k h)

pub length-read : (a : ℕ) (b : List ℕ) → length (balances_of a b) ≡ a
unfolding balances_of
length-read a b = length-tabulate a (λ k. le 8 b (8 * k))
