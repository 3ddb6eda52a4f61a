use Prim.Native.Nat.{ℕ}
use mathlib.Core.Path.{◌∙◌, ap, sym}
use Rattle.offers.specs.Offering.{reply_of}
use Rattle.offers.specs.declared.answer.Answer.{Answer}
use Rattle.rugxeni.proofs.NumberLaws.{said_as}
use Rattle.rugxeni.specs.Numbers.{number_of, place_of}
use Rattle.rugxeni.proofs.offering.say_offer.Goals as goal

abbrev number_in : Answer → ℕ
number_in a = number_of (reply_of a)

abbrev place_in : Answer → ℕ
place_in a = place_of (reply_of a)

pub returns-in-Accepted : goal.returns-in-Accepted
returns-in-Accepted c = let e = sym c.in-Accepted.is in said_as (ap number_in e) (ap place_in e) c.say.ensures

pub returns-in-Refused : goal.returns-in-Refused
returns-in-Refused c =
    let e = sym c.in-Refused.is in
    said_as (c.number.ensures ∙ ap number_in e) (c.place.ensures ∙ ap place_in e) c.say-in-Refused.ensures

pub returns-in-NoByte : goal.returns-in-NoByte
returns-in-NoByte c = let e = sym c.in-NoByte.is in said_as (ap number_in e) (ap place_in e) c.say-in-NoByte.ensures
