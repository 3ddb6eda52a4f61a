use borrow.Author.Tests.{eq-eqb, ne_eqb}
use mathlib.Core.Bool.{not}
use mathlib.Core.Path.{◌∙◌, ap, refl, sym}
use Rattle.frames.specs.Header.{check_header}
use Rattle.sums.proofs.TestLaws.{passed, took}
use Rattle.frames.proofs.header.check_header.Goals as goal

pub returns-then-b-ne8 : goal.returns-then-b-ne8
unfolding check_header
returns-then-b-ne8 c = sym (took _ (ap not (ne_eqb _ _ c.if-b-ne8.true)) refl)

pub returns-then-header_ok : goal.returns-then-header_ok
unfolding check_header
returns-then-header_ok c =
    let h = simp (c.u16_at-4.ensures, c.u16_at-3.ensures, c.u16_at-2.ensures, c.u16_at.ensures) at c.header_ok.ensures in
    sym (passed _ (ap not (eq-eqb _ _ c.if-b-ne8.false)) (took _ (sym h ∙ c.if-header_ok.true) refl))

pub returns-else-header_ok : goal.returns-else-header_ok
unfolding check_header
returns-else-header_ok c =
    let h = simp (c.u16_at-4.ensures, c.u16_at-3.ensures, c.u16_at-2.ensures, c.u16_at.ensures) at c.header_ok.ensures in
    sym (passed _ (ap not (eq-eqb _ _ c.if-b-ne8.false)) (passed _ (sym h ∙ c.if-header_ok.false) refl))
