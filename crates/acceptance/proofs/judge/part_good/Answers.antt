use mathlib.Core.Path.{◌∙◌, ap₂}
use Prim.Native.Nat.{ℕ}
use native.Mathlib.Omega.{arith}
use Rattle.acceptance.proofs.JudgeLaws.{empty-good, ordered_view}
use Rattle.state.proofs.WorkLaws.{beyond-none, settled-beyond}
use Rattle.ordering.specs.Table.{count_in, rank_in}
use Rattle.settlement.specs.Cells.{rows_in}
use Rattle.settlement.specs.View.{View}
use Rattle.escrow.specs.Amounts.{part_good}
use Rattle.sheets.specs.Sheet.{sheet_in}
use Rattle.acceptance.proofs.judge.part_good.Goals as goal

pub returns-then-z-x : goal.returns-then-z-x
returns-then-z-x c = (empty-good c.args.sheet.now c.args.z _ _ _ _ (omega (arith, c.if-z-x.true, c.cite_at-x.ensures)), beyond-none c.args.z _)

pub outcome-requires : goal.outcome-requires
outcome-requires c = (
  ordered_view c.args.z.m (rank_in c.args.ranks.now) (count_in c.args.cut) c.args.i c.args.p c.view_of-view.result c.view_of-view.ensures
      c.requires.ordered,
  c.requires.counts_long,
  c.requires.table_long,
  c.requires.order_long,
  c.requires.few,
  c.requires.registers,
)

pub returns : goal.returns
unfolding sheet_in rows_in
returns c = (
  c.outcome.ensures.1 ∙ ap₂ (λ (v : View) (x : ℕ). part_good (sheet_in c.args.sheet.now c.args.z) (rows_in c.args.ranks.now c.args.cites.now c.args.good.now) v
      c.args.i x) c.view_of-view.ensures c.cite_at-x.ensures,
  settled-beyond c.args.sheet.now c.args.z _ _ _ _ c.requires.few
      (ordered_view c.args.z.m (rank_in c.args.ranks.now) (count_in c.args.cut) c.args.i c.args.p c.view_of-view.result c.view_of-view.ensures c.requires.ordered)
      c.outcome.ensures.0,
)
