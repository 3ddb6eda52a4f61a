use mathlib.Core.Path.{◌∙◌, ap}
use lib.Seq.{sets}
use Rattle.fields.proofs.NumberLaws.{written}
use Rattle.fields.specs.Number.{store_number}
use Rattle.fields.proofs.put_u16.Goals as goal

pub returns : goal.returns
unfolding store_number
returns c = c.put_bytes.ensures ∙ ap (sets c.args.out.now c.args.at) (c.to_le_bytes.ensures ∙ written 2 c.args.v)
