use borrow.Author.Tests.{eq-eqb, le-ltb, lt-ltb, ne_eqb}
use mathlib.Core.Path.{◌∙◌, refl, sym}
use Rattle.frames.specs.Step.{loading_after}
use Rattle.sums.proofs.TestLaws.{passed, took}
use Rattle.frames.proofs.step.loading_after.Goals as goal

pub returns-then-kind-eq1 : goal.returns-then-kind-eq1
unfolding loading_after
returns-then-kind-eq1 c = c.header_loaded.ensures ∙ sym (took _ (eq-eqb _ _ c.if-kind-eq1.true) refl)

pub returns-then-kind-eq2 : goal.returns-then-kind-eq2
unfolding loading_after
returns-then-kind-eq2 c = sym (passed _ (ne_eqb _ _ c.if-kind-eq1.false) (took _ (eq-eqb _ _ c.if-kind-eq2.true) refl))

pub returns-then-s : goal.returns-then-s
unfolding loading_after
returns-then-s c = sym (passed _ (ne_eqb _ _ c.if-kind-eq1.false) (passed _ (ne_eqb _ _ c.if-kind-eq2.false) (took _ (eq-eqb _ _ c.if-kind-eq3.true) (took _ (lt-ltb _ _ c.if-s.true) refl))))

pub returns-else-s : goal.returns-else-s
unfolding loading_after
returns-else-s c = sym (passed _ (ne_eqb _ _ c.if-kind-eq1.false) (passed _ (ne_eqb _ _ c.if-kind-eq2.false) (took _ (eq-eqb _ _ c.if-kind-eq3.true) (passed _ (le-ltb _ _ c.if-s.false) refl))))

pub returns-else-kind-eq3 : goal.returns-else-kind-eq3
unfolding loading_after
returns-else-kind-eq3 c = sym (passed _ (ne_eqb _ _ c.if-kind-eq1.false) (passed _ (ne_eqb _ _ c.if-kind-eq2.false) (passed _ (ne_eqb _ _ c.if-kind-eq3.false) refl)))
