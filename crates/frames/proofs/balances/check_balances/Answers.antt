use borrow.Author.Rules.{rules}
use borrow.Author.Tests.{eq-eqb, ne_eqb}
use mathlib.Core.Bool.{not}
use mathlib.Core.Path.{◌∙◌, ap, refl, sym}
use Rattle.frames.specs.Balances.{check_balances}
use Rattle.sums.proofs.TestLaws.{passed, took}
use Rattle.frames.proofs.balances.check_balances.Goals as goal

pub overflow_mul-a : goal.overflow_mul-a
overflow_mul-a c = search rules

pub returns-then-b-a : goal.returns-then-b-a
unfolding check_balances
returns-then-b-a c = sym (took _ (ap not (ne_eqb _ _ c.if-b-a.true)) refl)

pub balances_ok-requires : goal.balances_ok-requires
balances_ok-requires c = search rules

pub returns-then-balances_ok : goal.returns-then-balances_ok
unfolding check_balances
returns-then-balances_ok c = sym (passed _ (ap not (eq-eqb _ _ c.if-b-a.false)) (took _ (sym c.balances_ok.ensures ∙ c.if-balances_ok.true) refl))

pub returns-else-balances_ok : goal.returns-else-balances_ok
unfolding check_balances
returns-else-balances_ok c = sym (passed _ (ap not (eq-eqb _ _ c.if-b-a.false)) (passed _ (sym c.balances_ok.ensures ∙ c.if-balances_ok.false) refl))
