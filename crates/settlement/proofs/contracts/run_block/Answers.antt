use borrow.Author.Rules.{rules}
use mathlib.Core.Path.{refl, sym, ◌∙◌}
use native.Mathlib.Omega.{arith}
use Rattle.settlement.proofs.BookCells.{block_end, block_more, block_none, skip-holds, step-holds}
use Rattle.settlement.specs.Cells.{rows_in}
use Rattle.sheets.proofs.SheetCells.{contract-below}
use mathlib.Core.List.{[]}
use Rattle.settlement.proofs.contracts.run_block.Goals as goal

pub loop-q-init : goal.loop-q-init
loop-q-init c = (omega arith, refl, refl, λ c₀ t₀ s k. block_none _ c₀ t₀ _ _ _ _ _ _ k)

pub overflow_add-p : goal.overflow_add-p
overflow_add-p c = omega arith

pub overflow_step-q : goal.overflow_step-q
overflow_step-q c = omega arith

pub loop-q-smaller-then-not-is_contract : goal.loop-q-smaller-then-not-is_contract
loop-q-smaller-then-not-is_contract c = omega arith

pub loop-q-preserved-then-not-is_contract : goal.loop-q-preserved-then-not-is_contract
loop-q-preserved-then-not-is_contract c = (
  omega arith,
  c.loop-q.invariant.1,
  c.loop-q.invariant.2,
  λ c₀ t₀ s k. block_more _ c₀ t₀ _ _ _ _ _ _ _
      (skip-holds _ _ _ c.args.good.now _ _ _ _ c.cite_at-x.ensures _ c.is_contract.ensures c₀ t₀ _ _ _ (c.if-not-is_contract.true) (c.loop-q.invariant.3 c₀ t₀ s k)),
)

pub book-next-requires : goal.book-next-requires
book-next-requires c = (
  contract-below _ _ _ (sym c.is_contract.ensures ∙ c.if-not-is_contract.false),
  omega (arith, c.loop-q.invariant.1, c.requires.0),
  omega
      (arith, c.loop-q.invariant.2, c.requires.1),
)

pub overflow_step-q-in-loop-q : goal.overflow_step-q-in-loop-q
overflow_step-q-in-loop-q c = omega arith

pub loop-q-smaller : goal.loop-q-smaller
loop-q-smaller c = omega arith

pub loop-q-preserved : goal.loop-q-preserved
loop-q-preserved c = (
  omega arith,
  search rules,
  search rules,
  λ c₀ t₀ s k. block_more _ c₀ t₀ _ _ _ _ _ _ _
      (step-holds _ _ _ _ _ _ _ _ c.cite_at-x.ensures _ c.is_contract.ensures c₀ t₀ _ _ _ _ c.good_at.ensures (c.if-not-is_contract.false)
      (c.book-next.ensures c₀ t₀ _ (c.loop-q.invariant.3 c₀ t₀ s k))),
)

pub shape_of-counts : goal.shape_of-counts
shape_of-counts c = c.loop-q.invariant.1

pub shape_of-table : goal.shape_of-table
shape_of-table c = c.loop-q.invariant.2

pub returns : goal.returns
returns c = λ c₀ t₀ s k. block_end _ c₀ t₀ _ _ _ _ _ (rows_in [] c.args.cites.now c.args.good.now) c.args.b _ c.loop-q.invariant.0 c.loop-q-test.false (c.loop-q.invariant.3 c₀ t₀ s k)
