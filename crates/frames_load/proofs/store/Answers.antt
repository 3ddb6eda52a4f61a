use borrow.Author.Tests.{eq-eqb, ne_eqb}
use mathlib.Core.Path.{◌∙◌, refl, sym}
use native.Mathlib.Omega.{arith}
use Rattle.frames_load.specs.Load.{body_stored}
use Rattle.sums.proofs.TestLaws.{passed, took}
use Rattle.frames_load.proofs.store.Goals as goal

pub returns-in-2 : goal.returns-in-2
unfolding body_stored
returns-in-2 c = c.put_bytes.ensures ∙ sym (took _ (eq-eqb _ _ (sym c.kind_due-kind.ensures ∙ c.in-2.is)) refl)

pub returns-in-3 : goal.returns-in-3
unfolding body_stored
returns-in-3 c =
    let due = sym c.kind_due-kind.ensures ∙ c.in-3.is in
    c.put_bytes-in-3.ensures ∙ sym (passed _ (ne_eqb _ _ (omega arith)) (took _ (eq-eqb _ _ due) refl))

pub returns-in_default : goal.returns-in_default
unfolding body_stored
returns-in_default c =
    let due = c.kind_due-kind.ensures in
    sym (passed _ (ne_eqb _ _ (omega arith)) (passed _ (ne_eqb _ _ (omega arith)) refl))
