use Rattle.std.proofs.Common.{None, Ok, rules, Some}
use mathlib.Core.Path.{◌∙◌, ◌≡◌, ap, sym}
use Rattle.rugxeni.proofs.NumberLaws.{said_by}
use Rattle.rugxeni.specs.Numbers.{frame_kind, frame_number, frame_place}
use Rattle.rugxeni.proofs.framing.say_frame.Goals as goal

pub returns-in-Ok-Some : goal.returns-in-Ok-Some
returns-in-Ok-Some c =
    let q : c.args.framed ≡ Ok (Some c.in-Ok-Some.span) = search rules in
    let e = sym q in
    said_by (ap frame_number e) (ap frame_place e) (ap frame_kind e) c.say.ensures

pub returns-in-Err : goal.returns-in-Err
returns-in-Err c =
    let e = sym c.in-Err.is in
    said_by (c.number.ensures ∙ ap frame_number e) (c.place.ensures ∙ ap frame_place e) (ap frame_kind e) c.say-in-Err.ensures

pub returns-in-Ok-None : goal.returns-in-Ok-None
returns-in-Ok-None c =
    let q : c.args.framed ≡ Ok None = search rules in
    let e = sym q in
    said_by (ap frame_number e) (ap frame_place e) (ap frame_kind e) c.say-in-Ok-None.ensures
