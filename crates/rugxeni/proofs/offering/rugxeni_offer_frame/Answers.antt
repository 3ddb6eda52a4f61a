use mathlib.Core.Path.{refl}
use Rattle.rugxeni.proofs.CallLaws.{offer-short, offer_done}
use Rattle.rugxeni.proofs.offering.rugxeni_offer_frame.Goals as goal

pub returns-then-numbers-lt22 : goal.returns-then-numbers-lt22
returns-then-numbers-lt22 c = offer-short c.if-numbers-lt22.true c.say_short.ensures

pub returns : goal.returns
returns c = offer_done c.if-numbers-lt22.false c.ledger_in.result c.offer_frame-done.result c.ledger_in.ensures c.offer_frame-done.ensures refl c.conclude.ensures.kept c.conclude.ensures.said
