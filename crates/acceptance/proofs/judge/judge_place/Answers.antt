use mathlib.Core.Path.{◌∙◌, ap}
use Prim.Native.Nat.{◌+◌, ◌*◌}
use lib.ListN.{set}
use Rattle.acceptance.specs.Judging.{judged_good}
use Rattle.sums.specs.Test.{bit}
use lib.ListN.{set}
use Rattle.acceptance.proofs.JudgeLaws.{bit_is}
use Rattle.acceptance.proofs.judge.judge_place.Goals as goal

pub returns : goal.returns
unfolding judged_good
returns c = (c.put_byte.ensures ∙ ap (set c.args.good.now (c.args.i * 4096 + c.args.p)) (c.from.ensures ∙ bit_is _ ∙ ap bit c.part_good-fine.ensures.0), c.part_good-fine.ensures.1)
