use Prim.Native.Nat.{ℕ}
use lib.Dec.{leb}
use mathlib.Core.Path.{◌∙◌, ap}
use Rattle.offers.specs.declared.answer.Answer.{Answer}
use Rattle.replay.proofs.LineLaws.{ends_as}
use Rattle.replay.specs.Reading.{ends_output}
use Rattle.replay.proofs.answers.ends_output.Goals as goal

pub returns-in-Accepted : goal.returns-in-Accepted
unfolding ends_output
returns-in-Accepted c = ends_as _ Answer.Accepted c.in-Accepted.is

pub returns-in-Refused : goal.returns-in-Refused
unfolding ends_output
returns-in-Refused c = ap (λ (n : ℕ). leb n 7) c.number.ensures ∙ ends_as _ (Answer.Refused _) c.in-Refused.is

pub returns-in-NoByte : goal.returns-in-NoByte
unfolding ends_output
returns-in-NoByte c = ends_as _ Answer.NoByte c.in-NoByte.is
