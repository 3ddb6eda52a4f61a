use lib.ListN.{get_or-eq_default, length-take, take}
use lib.Seq.{get_or-take}
use mathlib.Core.Path.{◌∙◌, sym}
use native.Mathlib.Omega.{arith}
use Rattle.bench.proofs.register.Goals as goal

pub returns-then-i-g : goal.returns-then-i-g
returns-then-i-g c = c.cell.ensures ∙ sym (get_or-take c.args.g c.args.cells c.args.i 0 (omega arith))

pub returns-else-i-g : goal.returns-else-i-g
returns-else-i-g c = sym (get_or-eq_default (take c.args.g c.args.cells) 0 (omega (arith, length-take c.args.g c.args.cells)))
