use borrow.Author.Rules.{rules}
use borrow.Author.Tests.{eq-eqb, ne_eqb}
use mathlib.Core.Bool.{not}
use mathlib.Core.Path.{◌∙◌, ap, sym}
use native.Mathlib.Omega.{arith}
use Rattle.sums.proofs.LoopLaws.{all_to_done, all_to-more, all_to-none, all_to_not}
use Rattle.transactions.proofs.check.new_at.Goals as goal

pub loop-j-init : goal.loop-j-init
loop-j-init c = (search rules, all_to-none _)

pub returns-then-account_at : goal.returns-then-account_at
returns-then-account_at c =
    let h = eq-eqb _ _ (sym c.account_at.ensures ∙ c.if-account_at.true ∙ c.account_at-in-loop-j.ensures) in
    sym (all_to_not _ c.loop-j.j _ (omega arith) (ap not h))

pub loop-j-preserved : goal.loop-j-preserved
loop-j-preserved c =
    let h = ne_eqb _ _ (λ q. c.if-account_at.false (c.account_at.ensures ∙ q ∙ sym c.account_at-in-loop-j.ensures)) in
    (omega arith, all_to-more _ _ c.loop-j.invariant.1 (ap not h))

pub returns : goal.returns
returns c = sym (all_to_done _ c.loop-j.j _ (omega arith) (omega arith) c.loop-j.invariant.1)
