use borrow.Author.Rules.{rules}
use lib.ListN.{length-set}
use mathlib.Core.Path.{◌∙◌, refl}
use native.Mathlib.Omega.{arith}
use Rattle.frames.specs.Block.{cut_of}
use Rattle.sums.proofs.LoopLaws.{filling_done, filling_more}
use Rattle.sums.specs.Seq.{tabulate}
use Rattle.frames.proofs.block.cut_of.Goals as goal

pub loop-j-init : goal.loop-j-init
unfolding tabulate
loop-j-init c = (search rules, refl, refl)

pub loop-j-preserved : goal.loop-j-preserved
loop-j-preserved c =
    let l = c.loop-j in (
      omega arith,
      length-set l.cut l.j c.cut_entry.result ∙ l.invariant.1,
      filling_more l.cut l.j c.cut_entry.result _ (omega arith) l.invariant.2 c.cut_entry.ensures,
    )

pub returns : goal.returns
unfolding cut_of
returns c = filling_done c.loop-j.cut 16 c.loop-j.j _ c.loop-j.invariant.1 (omega arith) (omega arith) c.loop-j.invariant.2
