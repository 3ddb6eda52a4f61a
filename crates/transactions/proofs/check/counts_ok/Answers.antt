use borrow.Author.Tests.{eq-eqb, le-leb, lt-leb, ne_eqb}
use mathlib.Core.Path.{refl, sym}
use Rattle.sums.proofs.TestLaws.{passed, took}
use Rattle.transactions.specs.Check.{counts_ok}
use Rattle.transactions.proofs.check.counts_ok.Goals as goal

pub returns-then-kind-gt1 : goal.returns-then-kind-gt1
unfolding counts_ok
returns-then-kind-gt1 c = sym (passed _ (lt-leb _ _ c.if-kind-gt1.true) refl)

pub returns-then-d-lt1 : goal.returns-then-d-lt1
unfolding counts_ok
returns-then-d-lt1 c = sym (took _ (le-leb _ _ c.if-kind-gt1.false) (passed _ (lt-leb _ _ c.if-d-lt1.true) refl))

pub returns-then-d-gt4 : goal.returns-then-d-gt4
unfolding counts_ok
returns-then-d-gt4 c = sym (took _ (le-leb _ _ c.if-kind-gt1.false) (took _ (le-leb _ _ c.if-d-lt1.false) (passed _ (lt-leb _ _ c.if-d-gt4.true) refl)))

pub returns-then-c-lt1 : goal.returns-then-c-lt1
unfolding counts_ok
returns-then-c-lt1 c = sym (took _ (le-leb _ _ c.if-kind-gt1.false) (took _ (le-leb _ _ c.if-d-lt1.false) (took _ (le-leb _ _ c.if-d-gt4.false) (passed _ (lt-leb _ _ c.if-c-lt1.true) refl))))

pub returns-then-c-gt4 : goal.returns-then-c-gt4
unfolding counts_ok
returns-then-c-gt4 c = sym (took _ (le-leb _ _ c.if-kind-gt1.false) (took _ (le-leb _ _ c.if-d-lt1.false) (took _ (le-leb _ _ c.if-d-gt4.false) (took _ (le-leb _ _ c.if-c-lt1.false) (passed _ (lt-leb _ _ c.if-c-gt4.true) refl)))))

pub returns-then-o-gt8 : goal.returns-then-o-gt8
unfolding counts_ok
returns-then-o-gt8 c = sym (took _ (le-leb _ _ c.if-kind-gt1.false) (took _ (le-leb _ _ c.if-d-lt1.false) (took _ (le-leb _ _ c.if-d-gt4.false) (took _ (le-leb _ _ c.if-c-lt1.false) (took _ (le-leb _ _ c.if-c-gt4.false) (passed _ (lt-leb _ _ c.if-o-gt8.true) refl))))))

pub returns-then-kind-eq0 : goal.returns-then-kind-eq0
unfolding counts_ok
returns-then-kind-eq0 c = sym (took _ (le-leb _ _ c.if-kind-gt1.false) (took _ (le-leb _ _ c.if-d-lt1.false) (took _ (le-leb _ _ c.if-d-gt4.false) (took _ (le-leb _ _ c.if-c-lt1.false) (took _ (le-leb _ _ c.if-c-gt4.false) (took _ (le-leb _ _ c.if-o-gt8.false) (took _ (eq-eqb _ _ c.if-kind-eq0.true) refl)))))))

pub returns : goal.returns
unfolding counts_ok
returns c = sym (took _ (le-leb _ _ c.if-kind-gt1.false) (took _ (le-leb _ _ c.if-d-lt1.false) (took _ (le-leb _ _ c.if-d-gt4.false) (took _ (le-leb _ _ c.if-c-lt1.false) (took _ (le-leb _ _ c.if-c-gt4.false) (took _ (le-leb _ _ c.if-o-gt8.false) (passed _ (ne_eqb _ _ c.if-kind-eq0.false) refl)))))))
