use mathlib.Core.Path.{ap, refl}
use Rattle.offers.proofs.OfferLaws.{not_taken, frame-may-take, frame-was-taken, unjudged}
use Rattle.state.specs.State.{kept}
use Rattle.settlement.specs.Tables.{buffers}
use mathlib.Core.Bool.{not}
use Rattle.offers.proofs.offer.offer_frame.Goals as goal

pub shape_of-ranks-then-not-is_accepted : goal.shape_of-ranks-then-not-is_accepted
shape_of-ranks-then-not-is_accepted c = refl

pub shape_of-cuts-then-not-is_accepted : goal.shape_of-cuts-then-not-is_accepted
shape_of-cuts-then-not-is_accepted c = refl

pub shape_of-cites-then-not-is_accepted : goal.shape_of-cites-then-not-is_accepted
shape_of-cites-then-not-is_accepted c = refl

pub returns-then-not-is_accepted : goal.returns-then-not-is_accepted
unfolding unjudged
returns-then-not-is_accepted c =
    let s = c.args in
    let K = kept s.sheet.now s.ranks.now s.cuts.now s.cites.now s.good.now in
    let W = buffers s.counts.now s.table.now s.order.now in
    not_taken s.ledger K W _ c.frame_verdict-verdict.result c.frame_verdict-verdict.ensures c.is_accepted.ensures (ap not c.if-not-is_accepted.true)

pub take_block-after-requires : goal.take_block-after-requires
unfolding unjudged
take_block-after-requires c =
    let s = c.args in
    let K = kept s.sheet.now s.ranks.now s.cuts.now s.cites.now s.good.now in
    let W = buffers s.counts.now s.table.now s.order.now in
    frame-may-take s.ledger K W s.bytes.now s.at c.frame_verdict-verdict.result c.frame_verdict-verdict.ensures
    c.is_accepted.ensures (ap not c.if-not-is_accepted.false) c.body-content.result.now c.block_of.result c.citations_in.result c.body-content.ensures.0 c.block_of.ensures c.citations_in.ensures.held (c.well_formed.0.1.1.1.0.1.0.1)

pub returns : goal.returns
unfolding unjudged
returns c =
    let s = c.args in
    let K = kept s.sheet.now s.ranks.now s.cuts.now s.cites.now s.good.now in
    let W = buffers s.counts.now s.table.now s.order.now in
    frame-was-taken s.ledger K W s.bytes.now s.at c.frame_verdict-verdict.result c.frame_verdict-verdict.ensures
    c.is_accepted.ensures (ap not c.if-not-is_accepted.false) c.body-content.result.now c.block_of.result c.citations_in.result c.body-content.ensures.0 c.block_of.ensures c.citations_in.ensures.held refl c.take_block-after.ensures
