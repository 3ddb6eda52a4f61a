use mathlib.Core.Path.{◌∙◌}
use Rattle.fields.proofs.NumberLaws.{le_worth}
use Rattle.fields.proofs.u64_at.Goals as goal

pub returns : goal.returns
returns c = c.from_le_bytes.ensures ∙ le_worth 7 c.args.s.now _ c.args.at c.bytes_at.ensures
