use Rattle.std.proofs.Common.{None, Ok, rules, Some}
use mathlib.Core.Path.{◌∙◌, ◌≡◌, ap, sym}
use Rattle.rugxeni.proofs.NumberLaws.{said_as}
use Rattle.rugxeni.specs.Numbers.{load_number, load_place}
use Rattle.rugxeni.proofs.loading.say_taken.Goals as goal

pub returns-in-Ok-Some : goal.returns-in-Ok-Some
returns-in-Ok-Some c =
    let e : c.args.answer ≡ Ok (Some c.in-Ok-Some.end) = search rules in
    said_as (ap load_number (sym e)) (ap load_place (sym e)) c.say.ensures

pub returns-in-Err : goal.returns-in-Err
returns-in-Err c =
    let e = sym c.in-Err.is in
    said_as (c.number.ensures ∙ ap load_number e) (c.place.ensures ∙ ap load_place e) c.say-in-Err.ensures

pub returns-in-Ok-None : goal.returns-in-Ok-None
returns-in-Ok-None c =
    let e : c.args.answer ≡ Ok None = search rules in
    said_as (ap load_number (sym e)) (ap load_place (sym e)) c.say-in-Ok-None.ensures
