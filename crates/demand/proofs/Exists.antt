-- Every list of offers is that of some ledger in use.
-- Assumes nothing.
use Prim.Native.Nat.{◌≤◌, ℕ}
use lib.ListN.{length, length-replicate, replicate, take}
use lib.Seq.{length-take-le, take_at}
use mathlib.Core.Bool.{Bool, false, true}
use mathlib.Core.List.{List, [], ◌∷◌}
use mathlib.Core.Path.{◌∙◌, ◌≡◌, ap, refl, subst, sym}
use native.Mathlib.Omega.{arith}
use borrow.Author.Tests.{eqb-true}
use Rattle.demand.proofs.Anew.{anew-beside}
use Rattle.demand.proofs.Demand3.{Q, begins}
use Rattle.demand.proofs.Lengths.{offered_lengths}
use Rattle.demand.proofs.Opened.{opened}
use Rattle.demand.proofs.Replies.{built, kept_left, result}
use Rattle.demand.proofs.Steps.{Beside, offer-answer, offer-beside, short-beside, short_told}
use Rattle.demand.specs.Chain.{Calls, Event, InUse, Opening, SameFront, SameLedger, anew, offer, offered, short, stop}
use Rattle.demand.specs.Exists.{ChainsExist, Lends, events_from}
use Rattle.frames.proofs.StepLaws.{due_late}
use Rattle.frames.specs.Step.{kind_due}
use Rattle.plain.proofs.AnswerLaws.{accepted_of, lent_enough}
use Rattle.plain.specs.Answer.{Answer, accepted, is_accepted}
use Rattle.plain.specs.Logs.{Logs, empty_logs, history_of}
use Rattle.offers.specs.Offering.{answer_from}
use Rattle.plain.specs.Offers as plain
use Rattle.plain.specs.Offers.{Offer, lent_of, offer_needs}
use Rattle.plain.specs.Plain.{answer, lent_answer, next}
use Rattle.settlement.specs.Tables.{Buffers}
use Rattle.sheets.proofs.ProperLaws.{ProperSheet}
use Rattle.sheets.specs.Sheet.{Sheet}
use Rattle.state.proofs.LengthLaws.{needs_are}
use Rattle.state.specs.Lengths.{least_lengths, needs_list}
use Rattle.state.specs.State.{Kept, cells_of, complete, kept, lengths_of, sheet_of}
use Rattle.state.specs.declared.ledger.Ledger.{Ledger}
use Rattle.sums.proofs.SeqLaws.{fill-room, length-fill}
use Rattle.sums.specs.Seq.{All, fill}

-- ---- buffers that suffice, and the ledger in others of such lengths

pub record Suffice (l : Ledger) (K : Kept) : Type 0 where
  pub sheet : (least_lengths l).sheet ≤ length K.sheet
  pub ranks : (least_lengths l).ranks ≤ length K.ranks
  pub cuts : (least_lengths l).cuts ≤ length K.cuts
  pub cites : (least_lengths l).cites ≤ length K.cites
  pub good : (least_lengths l).good ≤ length K.good

lent_suffice : (l : Ledger) (J : Kept) (W : Buffers) → lent_answer (needs_list (least_lengths l)) (lengths_of J W) ≡ accepted → Suffice l J
lent_suffice l J W e =
    let e1 = lent_enough _ _ _ _ e in
    let e2 = lent_enough _ _ _ _ e1.1 in
    let e3 = lent_enough _ _ _ _ e2.1 in
    let e4 = lent_enough _ _ _ _ e3.1 in
    let e5 = lent_enough _ _ _ _ e4.1 in
    record { sheet = e1.0; ranks = e2.0; cuts = e3.0; cites = e4.0; good = e5.0 }

-- the front of x over that of y
over : ℕ → List ℕ → List ℕ → List ℕ
over n x y = fill (take n x) y

over-front : (n : ℕ) (x y : List ℕ) → n ≤ length x → n ≤ length y → SameFront n (over n x y) x
unfolding over
over-front n x y h k =
    let e = length-take-le n x h in
    ap (take n) (fill-room (take n x) y (omega arith)) ∙ take_at (take n x) _ n e

into : Ledger → Kept → Kept → Kept
into l K J =
    kept (over (least_lengths l).sheet K.sheet J.sheet) (over (least_lengths l).ranks K.ranks J.ranks) (over (least_lengths l).cuts K.cuts J.cuts)
    (over (least_lengths l).cites K.cites J.cites) (over (least_lengths l).good K.good J.good)

into_same : (l : Ledger) (K J : Kept) → Suffice l K → Suffice l J → SameLedger l K (into l K J)
unfolding into
into_same l K J k j = record {
  sheet = over-front _ K.sheet J.sheet k.sheet j.sheet;
  ranks = over-front _ K.ranks J.ranks k.ranks j.ranks;
  cuts = over-front _ K.cuts J.cuts k.cuts j.cuts;
  cites = over-front _ K.cites J.cites k.cites j.cites;
  good = over-front _ K.good J.good k.good j.good;
}

into_lengths : (l : Ledger) (K J : Kept) (W : Buffers) → lengths_of (into l K J) W ≡ lengths_of J W
unfolding into over
into_lengths l K J W =
    rw (
      length-fill (take (least_lengths l).sheet K.sheet) J.sheet,
      length-fill (take (least_lengths l).ranks K.ranks) J.ranks,
      length-fill (take (least_lengths l).cuts K.cuts) J.cuts,
      length-fill (take (least_lengths l).cites K.cites) J.cites,
      length-fill (take (least_lengths l).good K.good) J.good,
    )
    refl

into_suffice : (l : Ledger) (K J : Kept) → Suffice l J → Suffice l (into l K J)
unfolding into over
into_suffice l K J j = record {
  sheet = rw (length-fill (take (least_lengths l).sheet K.sheet) J.sheet) j.sheet;
  ranks = rw (length-fill (take (least_lengths l).ranks K.ranks) J.ranks) j.ranks;
  cuts = rw (length-fill (take (least_lengths l).cuts K.cuts) J.cuts) j.cuts;
  cites = rw (length-fill (take (least_lengths l).cites K.cites) J.cites) j.cites;
  good = rw (length-fill (take (least_lengths l).good K.good) J.good) j.good;
}

left_suffice : (l : Ledger) (K : Kept) (o : Offer) → Suffice l K → Suffice (result l K o).ledger (kept_left l K o)
left_suffice l K o k =
    let s = offered_lengths (sheet_of l K) (answer_from l K o) (plain.offered (sheet_of l K) o) (cells_of l K) in
    record { sheet = k.sheet; ranks = rw s.ranks k.ranks; cuts = rw s.cuts k.cuts; cites = rw s.cites k.cites; good = rw s.good k.good }

-- ---- one offer more

-- the ledger and the buffers after the offer o, beside the plain ledger's logs; and the chain, begun with that offer
record Goes (S : Sheet) (l : Ledger) (K : Kept) (L : Logs) (o : Offer) : Type 0 where
  ledger : Ledger
  buffers : Kept
  beside : Beside S ledger buffers (next S L o)
  suffice : Suffice ledger buffers
  chain : (es : List Event) (l' : Ledger) (K' : Kept) → Calls ledger buffers es l' K' → Calls l K (offered o (answer S (history_of L) o) ∷ es) l' K'

module _ (S : Sheet) (P : ProperSheet S) (l : Ledger) (K : Kept) (L : Logs) (I : Beside S l K L) (k : Suffice l K) (o : Offer) (J : Kept) (W : Buffers) (lent : lent_of o ≡ lengths_of J W) where
  goes_on : lent_answer (offer_needs (sheet_of l K)) (lent_of o) ≡ accepted → Goes S l K L o
  goes_on e =
      let j = lent_suffice l J W (ap (λ (n : List ℕ). lent_answer n (lengths_of J W)) (needs_are l K) ∙ ap (lent_answer (offer_needs (sheet_of l K))) (sym lent) ∙ e) in
      let s = into_same l K J k j in
      let B = into l K J in
      let I' = anew-beside l K B s S P L I in
      let lent' : lent_of o ≡ lengths_of B W = lent ∙ sym (into_lengths l K J W) in
      let p = built l B W o in
      record {
        ledger = (result l B o).ledger;
        buffers = kept_left l B o;
        beside = offer-beside S P l B W o (result l B o) (kept_left l B o) W L p lent' I';
        suffice = left_suffice l B o (into_suffice l K J j);
        chain = λ es l' K' c.
            anew s (subst (λ (a : Answer). Calls l B (offered o a ∷ es) l' K') (offer-answer S P l B W o (result l B o) (kept_left l B o) W L p lent' I') (offer {r = result l B o} o lent' p c));
      }

  refused-short : is_accepted (lent_answer (offer_needs (sheet_of l K)) (lent_of o)) ≡ false → Goes S l K L o
  refused-short few =
      let p = built l J W o in
      record {
        ledger = (result l J o).ledger;
        buffers = K;
        beside = short-beside S l K J W o (result l J o) (kept_left l J o) W L few p I;
        suffice = record { sheet = k.sheet; ranks = k.ranks; cuts = k.cuts; cites = k.cites; good = k.good };
        chain = λ es l' K' c.
            subst (λ (a : Answer). Calls l K (offered o a ∷ es) l' K') (short_told S l K J W o (result l J o) (kept_left l J o) W L few p I) (short {r = result l J o} o lent few p c);
      }

  goes : Goes S l K L o
  goes = by-lent (is_accepted (lent_answer (offer_needs (sheet_of l K)) (lent_of o))) refl
    where
      by-lent : (b : Bool) → is_accepted (lent_answer (offer_needs (sheet_of l K)) (lent_of o)) ≡ b → Goes S l K L o
      by-lent true e = goes_on (accepted_of _ e)
      by-lent false e = refused-short e

-- ---- all of them

calls_from : (S : Sheet) → ProperSheet S → (os : List Offer) → All Lends os → (l : Ledger) (K : Kept) (L : Logs) → Beside S l K L → Suffice l K
    → (l' : Ledger) × (K' : Kept) × Calls l K (events_from S L os) l' K'
unfolding events_from
calls_from S P [] lends l K L I k = (l, K, stop)
calls_from S P (o ∷ os) ((J, W, e), lends) l K L I k =
    let g = goes S P l K L I k o J W e in
    let (l', K', c) = calls_from S P os lends g.ledger g.buffers (next S L o) g.beside g.suffice in
    (l', K', g.chain _ l' K' c)

-- buffers for a sheet that was just loaded
first : Ledger → List ℕ → Kept
first l cells =
    kept cells (replicate (least_lengths l).ranks 0) (replicate (least_lengths l).cuts 0) (replicate (least_lengths l).cites 0) (replicate (least_lengths l).good 0)

first_suffice : (S : Sheet) (l : Ledger) (cells : List ℕ) → Opening l cells S → complete l ≡ true → Suffice l (first l cells)
unfolding first complete
first_suffice S l cells o e = record {
  sheet = (opened o).room (due_late l.loading 4 (omega arith) (eqb-true (kind_due l.loading) 4 e));
  ranks = omega (arith, length-replicate {A = ℕ} (least_lengths l).ranks 0);
  cuts = omega (arith, length-replicate {A = ℕ} (least_lengths l).cuts 0);
  cites = omega (arith, length-replicate {A = ℕ} (least_lengths l).cites 0);
  good = omega (arith, length-replicate {A = ℕ} (least_lengths l).good 0);
}

-- the calls, from buffers that hold the sheet's cells on
pub calls_exist : (S : Sheet) (l : Ledger) (cells : List ℕ) → Opening l cells S → complete l ≡ true → (os : List Offer) → All Lends os
    → (K : Kept) × (K.sheet ≡ cells) × (l' : Ledger) × (K' : Kept) × Calls l K (events_from S (empty_logs S) os) l' K'
unfolding first
calls_exist S l cells o e os lends =
    let K = first l cells in
    let U : InUse S [] l K = record { first = l; lent = K; opened = o; whole = e; calls = stop } in
    let (l', K', c) = calls_from S (Q S [] l K U) os lends l K (empty_logs S) (begins S [] l K U) (first_suffice S l cells o e) in
    (K, refl, l', K', c)

pub chains_exist : ChainsExist
chains_exist S l cells o e os lends =
    let (K, q, l', K', c) = calls_exist S l cells o e os lends in
    (l', K', record { first = l; lent = K; opened = subst (λ (x : List ℕ). Opening l x S) (sym q) o; whole = e; calls = c })
