use mathlib.Core.Path.{◌∙◌, ap, refl}
use Rattle.offers.proofs.OfferLaws.{not_taken, may-take, was-taken, unjudged}
use Rattle.state.specs.State.{kept}
use Rattle.settlement.specs.Tables.{buffers}
use mathlib.Core.Bool.{not}
use Rattle.offers.proofs.offer.offer_block.Goals as goal

pub shape_of-ranks-then-not-is_accepted : goal.shape_of-ranks-then-not-is_accepted
shape_of-ranks-then-not-is_accepted c = refl

pub shape_of-cuts-then-not-is_accepted : goal.shape_of-cuts-then-not-is_accepted
shape_of-cuts-then-not-is_accepted c = refl

pub shape_of-cites-then-not-is_accepted : goal.shape_of-cites-then-not-is_accepted
shape_of-cites-then-not-is_accepted c = refl

pub returns-then-not-is_accepted : goal.returns-then-not-is_accepted
unfolding unjudged
returns-then-not-is_accepted c =
    let s = c.args in
    let K = kept s.sheet.now s.ranks.now s.cuts.now s.cites.now s.good.now in
    let W = buffers s.counts.now s.table.now s.order.now in
    not_taken s.ledger K W _ c.from-answer.result (c.from-answer.ensures ∙ c.values_verdict-verdict.ensures) c.is_accepted.ensures (ap not c.if-not-is_accepted.true)

pub take_block-taken-requires : goal.take_block-taken-requires
unfolding unjudged
take_block-taken-requires c =
    let s = c.args in
    let K = kept s.sheet.now s.ranks.now s.cuts.now s.cites.now s.good.now in
    let W = buffers s.counts.now s.table.now s.order.now in
    may-take s.ledger K W s.block s.citations.now c.from-answer.result (c.from-answer.ensures ∙ c.values_verdict-verdict.ensures)
    c.is_accepted.ensures (ap not c.if-not-is_accepted.false) c.citations_of.result c.citations_of.ensures.held (c.well_formed.0.1.1.1.0.1.0.1) (c.well_formed.1.1.1.1.1.1.1.1.1.0.1.1.1.1.1.0.1.0.1)

pub returns : goal.returns
unfolding unjudged
returns c =
    let s = c.args in
    let K = kept s.sheet.now s.ranks.now s.cuts.now s.cites.now s.good.now in
    let W = buffers s.counts.now s.table.now s.order.now in
    was-taken s.ledger K W s.block s.citations.now c.from-answer.result (c.from-answer.ensures ∙ c.values_verdict-verdict.ensures)
    c.is_accepted.ensures (ap not c.if-not-is_accepted.false) c.citations_of.result c.citations_of.ensures.held refl c.take_block-taken.ensures
