use mathlib.Core.Path.{refl, sym}
use Rattle.rugxeni.proofs.CallLaws.{offer-short, offer_done}
use Rattle.rugxeni.proofs.offering.rugxeni_offer_block.Goals as goal

pub returns-then-numbers-lt22 : goal.returns-then-numbers-lt22
returns-then-numbers-lt22 c = offer-short c.if-numbers-lt22.true c.say_short.ensures

pub returns : goal.returns
returns c = offer_done c.if-numbers-lt22.false c.ledger_in.result c.offer_block-offered.result c.ledger_in.ensures (rw (sym c.cut_of.ensures) c.offer_block-offered.ensures) refl c.conclude.ensures.kept c.conclude.ensures.said
