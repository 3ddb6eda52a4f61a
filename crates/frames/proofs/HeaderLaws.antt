-- What a header's test and check say.
-- Assumes nothing.
use Rattle.std.proofs.Common.{Ok}
use Prim.Native.Nat.{◌≤◌, ℕ}
use borrow.Author.Tests.{eq-eqb, eqb-true, leb-true}
use lib.Dec.{eqb, leb}
use lib.ListN.{length}
use mathlib.Core.Bool.{not, true}
use mathlib.Core.List.{List}
use mathlib.Core.Path.{◌≡◌, ap, refl}
use Rattle.fields.specs.Number.{le}
use Rattle.frames.specs.Header.{check_header, header_of, header_ok}
use Rattle.refusals.proofs.CheckedLaws.{held, tested}
use Rattle.sums.proofs.TestLaws.{both_true, passed, took}

-- the test, bound by bound
pub record HeaderBounds (m a g t : ℕ) : Type 0 where
  pub some-instance : 1 ≤ m
  pub instances : m ≤ 16
  pub some-account : 1 ≤ a
  pub accounts : a ≤ 1024
  pub registers : g ≤ 64
  pub transactions : t ≤ 1024

pub header_bounds : (m a g t : ℕ) → header_ok m a g t ≡ true → HeaderBounds m a g t
unfolding header_ok
header_bounds m a g t e =
    let p1 = both_true (leb 1 m) e in
    let p2 = both_true (leb m 16) p1.1 in
    let p3 = both_true (leb 1 a) p2.1 in
    let p4 = both_true (leb a 1024) p3.1 in
    let p5 = both_true (leb g 64) p4.1 in
    record {
      some-instance = leb-true 1 m p1.0;
      instances = leb-true m 16 p2.0;
      some-account = leb-true 1 a p3.0;
      accounts = leb-true a 1024 p4.0;
      registers = leb-true g 64 p5.0;
      transactions = leb-true t 1024 p5.1;
    }

pub header_fine : (b : List ℕ) (at : ℕ) → length b ≡ 8 → header_ok (header_of b).m (header_of b).a (header_of b).g (header_of b).t ≡ true → check_header b at ≡ Ok tt
unfolding check_header header_of
header_fine b at e ok = passed _ (ap not (eq-eqb _ _ e)) (took _ ok refl)

pub header_checked : (b : List ℕ) (at : ℕ) → check_header b at ≡ Ok tt → (length b ≡ 8) × (header_ok (header_of b).m (header_of b).a (header_of b).g (header_of b).t ≡ true)
unfolding check_header header_of
header_checked b at e = let p = held (eqb (length b) 8) _ e in (eqb-true (length b) 8 p.0, tested (header_ok (le 2 b 0) (le 2 b 2) (le 2 b 4) (le 2 b 6)) _ p.1)
