use mathlib.Core.Path.{◌∙◌}
use native.Mathlib.Omega.{arith}
use Rattle.escrow.proofs.ShareLaws.{share_of_count}
use Rattle.escrow.proofs.ShareRules.{share_rules}
use Rattle.escrow.proofs.share.share_of.Goals as goal

pub overflow_cast-result : goal.overflow_cast-result
overflow_cast-result c = let counted = c.settled_count in omega (arith, c.thousandths.ensures, share_rules.most _ _ counted.ensures.1)

pub returns : goal.returns
returns c = c.thousandths.ensures ∙ share_of_count _ _ _ c.settled_count.ensures.0
