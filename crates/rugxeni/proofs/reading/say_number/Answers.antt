use Rattle.std.proofs.Common.{Result}
use Rattle.std.specs.Result.{result_unwrap_or}
use Prim.Native.Nat.{ℕ}
use mathlib.Core.Path.{◌∙◌, ap, sym}
use Rattle.admission.specs.Replies.{reply_to}
use Rattle.refusals.specs.declared.Refusal.{Refusal}
use Rattle.rugxeni.proofs.NumberLaws.{said_by}
use Rattle.rugxeni.specs.Numbers.{number_of, place_of}
use Rattle.rugxeni.proofs.reading.say_number.Goals as goal

abbrev number_in : Result ℕ Refusal → ℕ
number_in a = number_of (reply_to a)

abbrev place_in : Result ℕ Refusal → ℕ
place_in a = place_of (reply_to a)

abbrev value_in : Result ℕ Refusal → ℕ
value_in a = result_unwrap_or a 0

pub returns-in-Ok : goal.returns-in-Ok
returns-in-Ok c = let e = sym c.in-Ok.is in said_by (ap number_in e) (ap place_in e) (ap value_in e) c.say.ensures

pub returns-in-Err : goal.returns-in-Err
returns-in-Err c =
    let e = sym c.in-Err.is in
    said_by (c.number.ensures ∙ ap number_in e) (c.place.ensures ∙ ap place_in e) (ap value_in e) c.say-in-Err.ensures
