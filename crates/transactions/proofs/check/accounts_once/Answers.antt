use mathlib.Core.Path.{◌∙◌, refl, sym}
use Rattle.sums.proofs.TestLaws.{passed, took}
use Rattle.sums.specs.Test.{both}
use Rattle.transactions.proofs.CheckLaws.{distinct_ext, sides_same}
use Rattle.transactions.specs.Check.{accounts_once, distinct}
use Rattle.transactions.proofs.check.accounts_once.Goals as goal

pub returns-then-not-all_new : goal.returns-then-not-all_new
unfolding accounts_once
returns-then-not-all_new c =
    let d = simp (c.byte_at.ensures, c.debits.ensures) at c.all_new.ensures in
    rw (sides_same c.args.body.now both distinct distinct_ext) (sym (passed _ (sym d ∙ c.if-not-all_new.true) refl))

pub returns : goal.returns
unfolding accounts_once
returns c =
    let d = simp (c.byte_at.ensures, c.debits.ensures) at c.all_new.ensures in
    let e = simp (c.byte_at-2.ensures, c.credits.ensures) at c.all_new-2.ensures in
    rw (sides_same c.args.body.now both distinct distinct_ext) (sym (took _ (sym d ∙ c.if-not-all_new.false) (sym e)))
