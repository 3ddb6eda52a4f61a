-- A list of the boundary's calls is one of demand 3's: the theorem `over_boundary`.
-- Assumes nothing.
use Prim.Native.Nat.{◌≤◌, ℕ}
use lib.ListN.{get_or, length}
use mathlib.Core.List.{List, [], ◌∷◌}
use mathlib.Core.Path.{◌∙◌, ◌≡◌, ap, ap₂, refl, subst, sym}
use native.Mathlib.Omega.{arith}
use Rattle.demand.proofs.Demand3.{demand_3}
use Rattle.demand.proofs.Replies.{Reply, read_replies}
use Rattle.demand.specs.Chain as chain
use Rattle.demand.specs.Chain.{Calls, Event, InUse, Opening, asked, no_sheet, sheet_after}
use Rattle.frames.specs.Frame.{body_at}
use Rattle.offers.specs.Offering.{reply_of}
use Rattle.offers.specs.declared.answer.Answer as answer
use Rattle.plain.specs.Answer.{Answer}
use Rattle.plain.specs.Offers.{Offer}
use Rattle.plain.specs.Report.{Query}
use Rattle.readings.specs.Reading.{work_lengths}
use Rattle.refusals.specs.declared.Refusal.{Refusal}
use Rattle.refusals.specs.declared.Refusal.TheVariants.{AccountTwice, BadLength, BodyLength, BufferShort, CitedBefore, EntryAhead, EntryBack, KindNotDue, LogFull, NoInstance, NoPart, NoTransaction, NotNumberDue, OutOfRange, RankNotAbove, Short, SumsDiffer}
use Rattle.rugxeni.proofs.Carried.{front-ledger, fresh-numbers, load_carried, offer_carried}
use Rattle.rugxeni.specs.Boundary.{OfferCall, ReadCall}
use Rattle.rugxeni.specs.Numbers.{ledger_in, number_of, place_of, size}
use Rattle.rugxeni.specs.OverBoundary.{BoundaryCalls, BoundaryOpening, BoundaryUse, OverBoundary, anew, answer_by, answered, begin, beside, early, few, few-load, few-read, load, load_less, loading, moved, offer, offer_less, reading, reported, short, reads, stop, taken}
use Rattle.settlement.specs.Tables.{Buffers}
use Rattle.sheets.specs.Sheet.{Sheet}
use Rattle.state.specs.State.{Kept, kept}
use Rattle.state.specs.declared.ledger.Ledger.{Ledger}
use Rattle.sums.specs.Seq.{fill}
use Rattle.sums.specs.Test.{pick}

-- ---- the sheet

pub opening_over : {n cells : List ℕ} {S : Sheet} → BoundaryOpening n cells S → (size ≤ length n) × Opening (ledger_in n) cells S
opening_over (begin {n} {cells} h e) = (h, subst (λ (l : Ledger). Opening l cells no_sheet) (sym (fresh-numbers n e)) chain.begin)
opening_over (load {n} {cells} {run} {told} {n'} {cells'} {told'} {at} {code} {S} o h c) =
    let (k, e) = load_carried n run at cells told code n' cells' told' h c in
    (k, subst (λ (l : Ledger). Opening l cells' (sheet_after (ledger_in n).loading (body_at run at) S (taken c h))) (sym e) (chain.load (opening_over o).1 (c.loads h).1))
opening_over (few {n} {cells} {other} {run} {told} {n'} {other'} {told'} {at} {code} {S} o u c) =
    let (h, p) = opening_over o in
    let (k, e) = load_carried n run at other told code n' other' told' h c in
    (k, subst (λ (l : Ledger). Opening l cells S) (sym e) (chain.few p u (c.loads h).1))
opening_over (early {n} {cells} {told} {n'} {told'} {code} {S} {K} {K'} {W} {W'} {o} b u c) =
    let (h, p) = opening_over b in
    let (k, e) = offer_carried n K W o told code n' K' W' told' h c in
    (k, subst (λ (l : Ledger). Opening l cells S) (sym e) (chain.early p u (c.offers h).1))
opening_over (beside o a) = opening_over o
opening_over (load_less {n} {p} {cells} {run} {told} {p'} {cells'} {told'} {at} {code} {S} o u c) =
    let (h, q) = opening_over o in
    (h, subst (λ (k : List ℕ). Opening (ledger_in n) k S) (sym (c.short u).2) q)
opening_over (offer_less {n} {p} {told} {p'} {told'} {code} {S} {K} {K'} {W} {W'} {o} b u c) =
    let (h, q) = opening_over b in
    (h, subst (λ (k : Kept). Opening (ledger_in n) k.sheet S) (sym (c.short u).2) q)
opening_over (reported {n} {run} {out} {out'} {told} {told'} {code} {K} {K'} {W} {W'} {S} o c e) =
    let (h, p) = opening_over o in
    (h, subst (λ (k : Kept). Opening (ledger_in n) k.sheet S) (sym (c.reports.2.quiet e).1) p)
opening_over (moved {n} {n'} {cells} {cells'} {S} o k e f) =
    (k, subst (λ (l : Ledger). Opening l cells' S) (sym (front-ledger n n' e)) (chain.moved (opening_over o).1 f))

-- ---- the calls

calls-over : {n n' : List ℕ} {K K' : Kept} {es : List Event} → BoundaryCalls n K es n' K' → size ≤ length n → (size ≤ length n') × Calls (ledger_in n) K es (ledger_in n') K'
calls-over stop u = (u, chain.stop)
calls-over (offer {n} {n'} {n''} {told} {told'} {code} {K} {K'} {K''} {es} {W} {W'} {o} h e c d) u =
    let (k, q) = offer_carried n K W o told code n' K' W' told' h c in
    let (v, D) = calls-over d k in
    (v, chain.offer {r = (c.offers h).0} o e (c.offers h).1 (subst (λ (l : Ledger). Calls l K' es (ledger_in n'') K'') q D))
calls-over (short {n} {n'} {n''} {told} {told'} {code} {K} {J} {J'} {K'} {es} {W} {W'} {o} h e s c d) u =
    let (k, q) = offer_carried n J W o told code n' J' W' told' h c in
    let (v, D) = calls-over d k in
    (v, chain.short {r = (c.offers h).0} o e s (c.offers h).1 (subst (λ (l : Ledger). Calls l K es (ledger_in n'') K') q D))
calls-over (reading h c d) u = let (v, D) = calls-over d u in (v, chain.reading (c.reads h).2 D)
calls-over (few-read h J s c d) u = let (v, D) = calls-over d u in (v, chain.few-read J s (c.reads h).2 D)
calls-over (loading {n} {n'} {n''} {run} {told} {cells} {told'} {at} {code} {K} {K'} {es} c d) u =
    let (k, q) = load_carried n run at K.sheet told code n' cells told' u c in
    let (v, D) = calls-over d k in
    (v, chain.loading {r = (c.loads u).0} (c.loads u).1 (subst (λ (l : Ledger). Calls l (kept cells K.ranks K.cuts K.cites K.good) es (ledger_in n'') K') q D))
calls-over (few-load {n} {n'} {n''} {run} {told} {other} {other'} {told'} {at} {code} {K} {K'} {es} c d) u =
    let (k, q) = load_carried n run at other told code n' other' told' u c in
    let (v, D) = calls-over d k in
    (v, chain.few-load {r = (c.loads u).0} (c.loads u).1 (subst (λ (l : Ledger). Calls l K es (ledger_in n'') K') q D))
calls-over (beside a d) u = calls-over d u
calls-over (load_less {n} {n'} {p} {run} {told} {p'} {cells} {told'} {at} {code} {K} {K'} {es} v c d) u =
    let (w, D) = calls-over d u in
    (w, subst (λ (k : List ℕ). Calls (ledger_in n) (kept k K.ranks K.cuts K.cites K.good) es (ledger_in n') K') (c.short v).2 D)
calls-over (offer_less {n} {n'} {p} {told} {p'} {told'} {code} {K} {K'} {K''} {es} {W} {W'} {o} v c d) u =
    let (w, D) = calls-over d u in
    (w, subst (λ (k : Kept). Calls (ledger_in n) k es (ledger_in n') K'') (c.short v).2 D)
calls-over (reported {n} {n'} {run} {out} {out'} {told} {told'} {code} {K} {K'} {K''} {es} {W} {W'} c e d) u =
    let (v, D) = calls-over d u in
    (v, subst (λ (k : Kept). Calls (ledger_in n) k es (ledger_in n') K'') (c.reports.2.quiet e).1 D)
calls-over (anew {n} {n'} {n''} {K} {J} {K'} {es} k e s d) u =
    let (v, D) = calls-over d k in
    (v, chain.anew s (subst (λ (l : Ledger). Calls l J es (ledger_in n'') K') (front-ledger n n' e) D))

used : (S : Sheet) (es : List Event) (n : List ℕ) (K : Kept) → BoundaryUse S es n K → (size ≤ length n) × InUse S es (ledger_in n) K
used S es n K U =
    let (h, o) = opening_over U.opened in
    let (k, c) = calls-over U.calls h in
    (k, record { first = ledger_in U.first; lent = U.lent; opened = o; whole = U.whole; calls = c })

-- ---- what the caller sees

refusal_by : (r : Refusal) → answer_by (number_of (reply_of (answer.Answer.Refused r))) (place_of (reply_of (answer.Answer.Refused r))) ≡ reply_of (answer.Answer.Refused r)
unfolding answer_by pick
refusal_by (Short at) = refl
refusal_by (BadLength at) = refl
refusal_by (KindNotDue at) = refl
refusal_by (BodyLength at) = refl
refusal_by (OutOfRange at) = refl
refusal_by (AccountTwice at) = refl
refusal_by (SumsDiffer at) = refl
refusal_by NoInstance = refl
refusal_by (NotNumberDue due) = refl
refusal_by (RankNotAbove last) = refl
refusal_by (EntryBack entry) = refl
refusal_by (EntryAhead entry) = refl
refusal_by (NoTransaction k) = refl
refusal_by (NoPart k) = refl
refusal_by (CitedBefore k) = refl
refusal_by (BufferShort least) = refl
refusal_by LogFull = refl

reply_by : (x : answer.Answer) → answer_by (number_of (reply_of x)) (place_of (reply_of x)) ≡ reply_of x
unfolding answer_by pick
reply_by answer.Answer.Accepted = refl
reply_by (answer.Answer.Refused r) = refusal_by r
reply_by answer.Answer.NoByte = refl

-- two places hold what is told
told_two : (p v : ℕ) (l : List ℕ) → 2 ≤ length l → (get_or (fill (p ∷ v ∷ []) l) 0 0 ≡ p) × (get_or (fill (p ∷ v ∷ []) l) 1 0 ≡ v)
unfolding fill
told_two p v [] h = absurd (omega arith)
told_two p v (x ∷ []) h = absurd (omega arith)
told_two p v (x ∷ y ∷ l) h = (refl, refl)

module _ (a : Answer) (v : ℕ) (x : Reply a) (told : List ℕ) (code : ℕ) (told' : List ℕ) (two : 2 ≤ length told) (e : code ≡ number_of a) (w : told' ≡ fill (place_of a ∷ v ∷ []) told) where
  seen-answer : a ≡ answer_by code (get_or told' 0 0)
  seen-answer =
      let at : get_or told' 0 0 ≡ place_of a = ap (λ (l : List ℕ). get_or l 0 0) w ∙ (told_two (place_of a) v told two).0 in
      sym (ap₂ answer_by e at ∙ subst (λ (b : Answer). answer_by (number_of b) (place_of b) ≡ b) x.1 (reply_by x.0))

  seen_value : v ≡ get_or told' 1 0
  seen_value = sym (ap (λ (l : List ℕ). get_or l 1 0) w ∙ (told_two (place_of a) v told two).1)

seen-offer : {n : List ℕ} {K : Kept} {W : Buffers} {o : Offer} {told : List ℕ} {code : ℕ} {n' : List ℕ} {K' : Kept} {W' : Buffers} {told' : List ℕ}
    → (c : OfferCall n K W o told code n' K' W' told') (h : size ≤ length n) → 2 ≤ length told → answered c h ≡ answer_by code (get_or told' 0 0)
seen-offer {told = told} {code = code} {told' = told'} c h two =
    let s = (c.offers h).3 in
    seen-answer (answered c h) 0 ((c.offers h).0.answer, refl) told code told' two s.returned s.written

seen-reading : {n : List ℕ} {K : Kept} {W : Buffers} {q : Query} {outs : List (List ℕ)} {told : List ℕ} {code : ℕ} {W' : Buffers} {outs' : List (List ℕ)} {told' : List ℕ}
    → (c : ReadCall n K W q outs told code W' outs' told') (h : size ≤ length n) → 2 ≤ length told
    → reads c h ≡ asked (record { query = q; work = work_lengths q K W; lists = outs; answer = answer_by code (get_or told' 0 0); value = get_or told' 1 0; filled = outs' })
seen-reading {K = K} {W = W} {q = q} {outs = outs} {told = told} {code = code} {outs' = outs'} {told' = told'} c h two =
    let (a, v, R, s) = c.reads h in
    let x : Reply a = subst Reply (sym R.tells.answered) (read_replies _ _ _ q _) in
    ap₂ (λ (b : Answer) (w : ℕ). asked (record { query = q; work = work_lengths q K W; lists = outs; answer = b; value = w; filled = outs' }))
    (seen-answer a v x told code told' two s.returned s.written) (seen_value a v x told code told' two s.returned s.written)

pub over_boundary : OverBoundary
over_boundary = record {
  in_use = used;
  one = λ S es n K U. demand_3.one S es (ledger_in n) K (used S es n K U).1;
  two = λ S es es' n n' K K' U U'. demand_3.two S es es' (ledger_in n) (ledger_in n') K K' (used S es n K U).1 (used S es' n' K' U').1;
  seen = seen-offer;
  seen_read = seen-reading;
}
