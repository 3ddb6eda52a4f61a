use borrow.Author.Tests.{ne_eqb}
use mathlib.Core.Path.{◌∙◌}
use Rattle.admission.proofs.EntryLaws.{own_no, own_yes}
use Rattle.admission.proofs.entries.is_own_off.Goals as goal

pub returns-then-e-block : goal.returns-then-e-block
returns-then-e-block c = own_yes _ _ _ _ c.if-e-block.true c.saturating_sub.ensures

pub returns-else-e-block : goal.returns-else-e-block
returns-else-e-block c = ne_eqb _ _ c.if-e-block.false ∙ own_no _ c.args.block.sequence.0 _ c.args.v c.if-e-block.false
