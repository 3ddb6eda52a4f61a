use mathlib.Core.Path.{◌∙◌, ap}
use Rattle.escrow.specs.Inner.{counts_paid, takes}
use native.Mathlib.Omega.{arith}
use Rattle.escrow.proofs.AmountCells.{out_failed, out-passed, out-taken}
use mathlib.Core.List.{[]}
use Rattle.escrow.proofs.amounts.out_at.Goals as goal

pub returns-then-not-good_at : goal.returns-then-not-good_at
returns-then-not-good_at c = (out_failed _ _ [] c.args.cites.now _ _ _ _ _ _ _ c.good_at.ensures (c.if-not-good_at.true), omega arith)

pub returns-then-not-takes_it : goal.returns-then-not-takes_it
returns-then-not-takes_it c = (
  out-passed _ _ [] c.args.cites.now _ _ _ _ _ _ _ c.good_at.ensures (c.if-not-good_at.false) _ _ c.cite_at-x.ensures c.status_at.ensures.1 _
      (c.takes_it.ensures ∙ ap (takes (counts_paid c.args.counted)) c.status_of.ensures) (c.if-not-takes_it.true),
  omega arith,
)

pub returns : goal.returns
returns c = (
  out-taken _ _ [] c.args.cites.now _ _ _ _ _ _ _ c.good_at.ensures (c.if-not-good_at.false) _ _ c.cite_at-x.ensures c.status_at.ensures.1 _
      (c.takes_it.ensures ∙ ap (takes (counts_paid c.args.counted)) c.status_of.ensures) (c.if-not-takes_it.false) _ c.debit_on.ensures.0,
  c.debit_on.ensures.1,
)
