use mathlib.Core.Path.{◌∙◌}
use Rattle.admission.proofs.EntryLaws.{off_own, off-back}
use Rattle.admission.proofs.entries.is_off.Goals as goal

pub returns-then-is_own_off : goal.returns-then-is_own_off
returns-then-is_own_off c = c.if-is_own_off.true ∙ off_own c.args.heights c.args.cuts.now c.args.block _ c.count_at-v.ensures c.is_own_off.ensures c.if-is_own_off.true

pub returns-else-is_own_off : goal.returns-else-is_own_off
returns-else-is_own_off c = off-back c.args.heights c.args.cuts.now c.args.block _ c.count_at-v.ensures c.is_own_off.ensures c.if-is_own_off.false c.last_entry.ensures
