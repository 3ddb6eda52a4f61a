use borrow.Author.Rules.{rules}
use mathlib.Core.Path.{◌∙◌, sym}
use native.Mathlib.Omega.{arith}
use Rattle.sums.proofs.LoopLaws.{all_to_done, all_to-more, all_to-none, all_to_not}
use Rattle.transactions.proofs.check.operations_ok.Goals as goal

pub loop-k-init : goal.loop-k-init
loop-k-init c = (search rules, all_to-none _)

pub returns-then-not-operation_ok : goal.returns-then-not-operation_ok
returns-then-not-operation_ok c = sym (all_to_not _ c.loop-k.k _ (omega arith) (sym c.operation_ok.ensures ∙ c.if-not-operation_ok.true))

pub loop-k-preserved : goal.loop-k-preserved
loop-k-preserved c = (omega arith, all_to-more _ _ c.loop-k.invariant.1 (sym c.operation_ok.ensures ∙ c.if-not-operation_ok.false))

pub returns : goal.returns
returns c = sym (all_to_done _ c.loop-k.k _ (omega arith) (omega arith) c.loop-k.invariant.1)
