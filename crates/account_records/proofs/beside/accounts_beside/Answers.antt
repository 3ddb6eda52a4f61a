use mathlib.Core.Path.{ap}
use native.Mathlib.Omega.{arith}
use Rattle.state.specs.State.{kept}
use Rattle.settlement.specs.Tables.{buffers}
use mathlib.Core.List.{[]}
use Rattle.account_records.proofs.BesideLaws.{beside-short, beside_full}
use Rattle.account_records.proofs.beside.accounts_beside.Goals as goal

pub returns-then-room-a : goal.returns-then-room-a
returns-then-room-a c = beside-short c.args.ledger (kept c.args.sheet.now c.args.ranks.now [] c.args.cites.now c.args.good.now) (buffers c.args.counts.now c.args.table.now c.args.order.now) _ _ _ c.args.free.now c.args.held.now _ _ c.accounts.ensures (omega (arith, c.if-room-a.true, ap (λ z. z.a) c.sizes-z.ensures))

pub returns : goal.returns
returns c = beside_full c.args.ledger (kept c.args.sheet.now c.args.ranks.now [] c.args.cites.now c.args.good.now) (buffers c.args.counts.now c.args.table.now c.args.order.now) _ _ _ c.args.free.now c.args.held.now _ _ c.accounts-2.ensures (omega (arith, c.if-room-a.false, ap (λ z. z.a) c.sizes-z.ensures))
