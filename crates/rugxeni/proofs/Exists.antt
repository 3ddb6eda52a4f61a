-- Every list of demand 3's calls is one of the boundary's: what the library's calls return, the boundary's can.
-- Assumes nothing.
use Prim.Native.Nat.{◌≤◌, ℕ}
use lib.ListN.{length}
use mathlib.Core.Bool.{false}
use mathlib.Core.List.{List, []}
use mathlib.Core.Path.{◌≡◌, refl, subst, sym}
use native.Mathlib.Omega.{arith}
use Rattle.demand.proofs.Exists.{calls_exist}
use Rattle.demand.specs.Chain as chain
use Rattle.demand.specs.Chain.{Calls, Event, SameLedger}
use Rattle.offers.specs.Offering.{Offers, reply_of}
use Rattle.offers.specs.declared.answer.Offered.{Offered}
use Rattle.plain.specs.Answer.{Answer, is_accepted}
use Rattle.plain.specs.Offers.{Offer, lent_of, offer_needs}
use Rattle.plain.specs.Plain.{lent_answer}
use Rattle.plain.specs.Report.{Query, work_needs}
use Rattle.readings.specs.Reading.{Reads, lent_to, work_lengths}
use Rattle.rugxeni.proofs.Carried.{load_carried, offer_carried}
use Rattle.rugxeni.proofs.OverBoundary.{opening_over}
use Rattle.rugxeni.specs.Boundary.{LoadCall, OfferCall, ReadCall}
use Rattle.rugxeni.specs.Numbers.{Said, is_taken, ledger_in, load_number, number_of, numbers_of, size}
use Rattle.rugxeni.specs.OverBoundary.{BoundaryCalls, BoundaryChainsExist, BoundaryOpening, anew, few-load, few-read, loading, offer, reading, short, stop}
use Rattle.settlement.specs.Tables.{Buffers}
use Rattle.state.specs.Loading.{LoadsSheet}
use Rattle.state.specs.State.{Kept, sheet_of}
use Rattle.state.specs.declared.ledger.Ledger.{Ledger}
use Rattle.state.specs.declared.load.Loaded.{Loaded}
use Rattle.sums.proofs.SeqLaws.{fill-nothing}
use Rattle.sums.specs.Seq.{fill}
use Rattle.sums.specs.Test.{pick}

-- ---- a call of the boundary, by one of the library's; nothing is lent to be told

said_nothing : (number place value : ℕ) → Said number place value number [] []
said_nothing number place value = record { returned = refl; written = sym (fill-nothing _) }

abbrev offer_left : List ℕ → Offered → List ℕ
offer_left n r = pick (is_accepted (reply_of r.answer)) (fill (numbers_of r.ledger) n) n

abbrev offer_by : {n : List ℕ} {K : Kept} {W : Buffers} {o : Offer} {r : Offered} {K' : Kept} {W' : Buffers} → size ≤ length n → Offers (ledger_in n) K W o r K' W'
    → OfferCall n K W o [] (number_of (reply_of r.answer)) (offer_left n r) K' W' []
offer_by {r = r} h p = record { short = λ u. absurd (omega arith); offers = λ u. (r, p, refl, said_nothing _ _ _) }

abbrev load_left : List ℕ → Loaded → List ℕ
load_left n r = pick (is_taken r.answer) (fill (numbers_of r.ledger) n) n

abbrev load_by : {n run : List ℕ} {at : ℕ} {sheet sheet' : List ℕ} {r : Loaded} → size ≤ length n → LoadsSheet (ledger_in n) run at sheet sheet' r
    → LoadCall n run at sheet [] (load_number r.answer) (load_left n r) sheet' []
load_by {r = r} h p = record { short = λ u. absurd (omega arith); loads = λ u. (r, p, refl, said_nothing _ _ _) }

abbrev read_by : {n : List ℕ} {K : Kept} {W : Buffers} {q : Query} {outs : List (List ℕ)} {a : Answer} {v : ℕ} {W' : Buffers} {outs' : List (List ℕ)} → size ≤ length n
    → Reads (ledger_in n) K W q outs a v W' outs' → ReadCall n K W q outs [] (number_of a) W' outs' []
read_by {a = a} {v = v} h p = record { short = λ u. absurd (omega arith); reads = λ u. (a, v, p, said_nothing _ _ _) }

-- ---- all of them

calls_back : {l l' : Ledger} {K K' : Kept} {es : List Event} → Calls l K es l' K' → (n : List ℕ) → size ≤ length n → ledger_in n ≡ l → (n' : List ℕ) × BoundaryCalls n K es n' K'
calls_back chain.stop n h e = (n, stop)
calls_back (chain.offer {l} {l'} {K} {K'} {K''} {es} {W} {W'} {r} o lent p d) n h e =
    let c = offer_by h (subst (λ (x : Ledger). Offers x K W o r K' W') (sym e) p) in
    let (k, q) = offer_carried n K W o [] _ (offer_left n r) K' W' [] h c in
    let (n', D) = calls_back d (offer_left n r) k q in
    (n', offer h lent c D)
calls_back (chain.short {l} {l'} {K} {J} {J'} {K'} {es} {W} {W'} {r} o lent few p d) n h e =
    let c = offer_by h (subst (λ (x : Ledger). Offers x J W o r J' W') (sym e) p) in
    let (k, q) = offer_carried n J W o [] _ (offer_left n r) J' W' [] h c in
    let (n', D) = calls_back d (offer_left n r) k q in
    (n', short h lent (subst (λ (x : Ledger). is_accepted (lent_answer (offer_needs (sheet_of x K)) (lent_of o)) ≡ false) (sym e) few) c D)
calls_back (chain.anew {l} {l'} {K} {J} {K'} {es} s d) n h e =
    let (n', D) = calls_back d n h e in
    (n', anew h refl (subst (λ (x : Ledger). SameLedger x K J) (sym e) s) D)
calls_back (chain.reading {l} {l'} {K} {K'} {es} {W} {W'} {q} {outs} {outs'} {a} {n = v} R d) n h e =
    let (n', D) = calls_back d n h e in
    (n', reading h (read_by h (subst (λ (x : Ledger). Reads x (lent_to q K) W q outs a v W' outs') (sym e) R)) D)
calls_back (chain.few-read {l} {l'} {K} {K'} {es} {W} {W'} {q} {outs} {outs'} {a} {n = v} J few R d) n h e =
    let (n', D) = calls_back d n h e in (
      n',
      few-read h J (subst (λ (x : Ledger). is_accepted (lent_answer (work_needs (sheet_of x K) q) (work_lengths q (lent_to q J) W)) ≡ false) (sym e) few)
          (read_by h (subst (λ (x : Ledger). Reads x (lent_to q J) W q outs a v W' outs') (sym e) R)) D,
    )
calls_back (chain.loading {l} {l'} {K} {K'} {es} {cells} {run} {at} {r} s d) n h e =
    let c = load_by h (subst (λ (x : Ledger). LoadsSheet x run at K.sheet cells r) (sym e) s) in
    let (k, q) = load_carried n run at K.sheet [] _ (load_left n r) cells [] h c in
    let (n', D) = calls_back d (load_left n r) k q in
    (n', loading c D)
calls_back (chain.few-load {l} {l'} {K} {K'} {es} {other} {other'} {run} {at} {r} s d) n h e =
    let c = load_by h (subst (λ (x : Ledger). LoadsSheet x run at other other' r) (sym e) s) in
    let (k, q) = load_carried n run at other [] _ (load_left n r) other' [] h c in
    let (n', D) = calls_back d (load_left n r) k q in
    (n', few-load c D)

pub boundary_chains_exist : BoundaryChainsExist
boundary_chains_exist S n cells o e os lends =
    let (h, p) = opening_over o in
    let (K, q, l', K', c) = calls_exist S (ledger_in n) cells p e os lends in
    let (n', D) = calls_back c n h refl in
    (n', K', record { first = n; lent = K; opened = subst (λ (x : List ℕ). BoundaryOpening n x S) (sym q) o; whole = e; calls = D })
