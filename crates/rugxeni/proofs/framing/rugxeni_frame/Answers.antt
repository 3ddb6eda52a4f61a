use mathlib.Core.Path.{ap}
use Rattle.rugxeni.proofs.NumberLaws.{said_by}
use Rattle.rugxeni.specs.Numbers.{frame_kind, frame_number, frame_place}
use Rattle.rugxeni.proofs.framing.rugxeni_frame.Goals as goal

pub returns : goal.returns
returns c = said_by (ap frame_number c.frame-framed.ensures) (ap frame_place c.frame-framed.ensures) (ap frame_kind c.frame-framed.ensures) c.say_frame.ensures
