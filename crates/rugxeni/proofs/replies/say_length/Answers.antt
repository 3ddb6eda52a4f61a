use mathlib.Core.Path.{◌∙◌, ap, sym}
use Rattle.rugxeni.proofs.NumberLaws.{said_as}
use Rattle.rugxeni.specs.Numbers.{written_number, written_place}
use Rattle.rugxeni.proofs.replies.say_length.Goals as goal

pub returns-in-Ok : goal.returns-in-Ok
returns-in-Ok c = let e = sym c.in-Ok.is in said_as (ap written_number e) (ap written_place e) c.say.ensures

pub returns-in-Err : goal.returns-in-Err
returns-in-Err c =
    let e = sym c.in-Err.is in
    said_as (c.number.ensures ∙ ap written_number e) (c.place.ensures ∙ ap written_place e) c.say-in-Err.ensures
