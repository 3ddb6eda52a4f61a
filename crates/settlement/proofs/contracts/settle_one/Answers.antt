use mathlib.Core.Bool.{true, false}
use native.Mathlib.Omega.{arith}
use borrow.Author.Tests.{not-true, not-false}
use Rattle.settlement.proofs.BookCells.{failed-run, passed-run, run_after, run_passes, spoilt, wait-for}
use Rattle.settlement.proofs.contracts.settle_one.Goals as goal

pub returns-then-count_of-parts_of : goal.returns-then-count_of-parts_of
returns-then-count_of-parts_of c = λ c₀ t₀ s k. wait-for _ c₀ t₀ s _ _ _ _ c.requires.0 k _ _ _ c.count_of.ensures c.parts_of.ensures.0 (omega (arith, c.parts_of.type_inv))
    c.if-count_of-parts_of.true

pub returns-then-count_of-ne0 : goal.returns-then-count_of-ne0
returns-then-count_of-ne0 c = λ c₀ t₀ s k. rw c.from.ensures (spoilt _ c₀ t₀ s _ _ _ _ c.requires.0 k _ _ _ c.count_of.ensures c.parts_of.ensures.0
    (omega (arith, c.parts_of.type_inv)) c.if-count_of-parts_of.false _ c.count_of-2.ensures c.if-count_of-ne0.true c.requires.1)

pub returns-then-not-ran : goal.returns-then-not-ran
returns-then-not-ran c = λ c₀ t₀ s k. rw c.from-then-not-ran.ensures (failed-run _ c₀ t₀ s _ _ _ _ c.requires.0 k _ _ _ c.count_of.ensures c.parts_of.ensures.0
    (omega (arith, c.parts_of.type_inv)) c.if-count_of-parts_of.false _ c.count_of-2.ensures c.if-count_of-ne0.false
    (run_passes _ _ c₀ t₀ s _ _ _ _ k _ c.run-ran.ensures false (not-true _ c.if-not-ran.true)) c.requires.1)

pub returns : goal.returns
returns c = λ c₀ t₀ s k. rw c.from-2.ensures (passed-run _ c₀ t₀ s _ _ _ _ c.requires.0 k _ _ _ c.count_of.ensures c.parts_of.ensures.0 (omega (arith, c.parts_of.type_inv))
    c.if-count_of-parts_of.false _ c.count_of-2.ensures c.if-count_of-ne0.false (run_passes _ _ c₀ t₀ s _ _ _ _ k _ c.run-ran.ensures true (not-false _ c.if-not-ran.false)) _
    (run_after _ _ c₀ t₀ s _ _ _ _ k _ c.run-ran.ensures) c.requires.1)
