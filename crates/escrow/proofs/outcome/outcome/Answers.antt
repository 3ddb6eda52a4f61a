use mathlib.Core.Path.{◌∙◌}
use Rattle.escrow.proofs.AmountCells.{good-in}
use Rattle.escrow.proofs.outcome.outcome.Goals as goal

pub returns : goal.returns
returns c = (c.settle-registers.ensures.0, c.judge.ensures ∙ good-in _ _ c.args.ranks.now _ _ c.args.view _ c.settle-registers.ensures.0.statuses _ _)
