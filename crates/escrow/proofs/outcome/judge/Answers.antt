use Rattle.escrow.proofs.AmountCells.{part_judged, part_none}
use Rattle.escrow.proofs.outcome.judge.Goals as goal

pub returns-then-z-x : goal.returns-then-z-x
returns-then-z-x c = part_none _ _ _ _ c.args.view _ _ _ c.if-z-x.true

pub returns : goal.returns
returns c = part_judged _ _ _ _ c.args.view _ _ _ _ _ _ _ c.if-z-x.false c.slot_of-body.ensures c.debits_good.ensures c.debits.ensures c.byte_at.ensures
