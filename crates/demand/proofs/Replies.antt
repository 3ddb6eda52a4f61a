-- Every answer that is due to an offer is one that the call can return, so a result of the call can be built, whatever the ledger, the buffers and the offer are.
-- Assumes nothing.
use Rattle.std.proofs.Common.{Ok, Err, None, Some}
use Prim.Native.Nat.{suc, zero, ℕ}
use lib.Dec.{leb, ltb}
use lib.ListN.{length}
use mathlib.Core.Bool.{Bool, false, not, true}
use mathlib.Core.List.{List, [], ◌∷◌}
use mathlib.Core.Path.{◌∙◌, ◌≡◌, ap, ap₂, refl}
use Rattle.escrow.specs.Outcome.{History}
use Rattle.frames.specs.Frame.{frame_at}
use Rattle.frames.specs.Frame.{Framed}
use Rattle.frames.specs.declared.step.Loading.{Loading}
use Rattle.offers.specs.Offering.{Offers, answer_from, reply_of}
use Rattle.offers.specs.declared.answer.Answer.{Answer}
use Rattle.offers.specs.declared.answer.Offered.{Offered}
use Rattle.plain.proofs.AnswerLaws.{then_not}
use Rattle.plain.specs.Answer.{◌then◌, accepted, first_to, is_accepted, no_offer, refuse, refused}
use Rattle.plain.specs.Answer as plain
use Rattle.plain.specs.Early.{early_answer, early_frame, early_front}
use Rattle.plain.specs.Logs.{Values}
use Rattle.plain.specs.Offers.{Offer, Parsed, block, frame, lent_of, offer_needs, offered, parse, values, wrong}
use Rattle.plain.specs.Plain.{answer, block_answer, cite_answer, front_answer, idle_answer, lent_answer, parsed_answer, values_answer}
use Rattle.plain.specs.Report.{Query, Report, read_answer}
use Rattle.refusals.specs.Refusals.{refusal_number, refusal_place}
use Rattle.refusals.specs.declared.Refusal.{Refusal}
use Rattle.refusals.specs.declared.Refusal.TheVariants.{BufferShort, CitedBefore, EntryAhead, EntryBack, KindNotDue, LogFull, NoInstance, NoPart, NoTransaction, NotNumberDue, OutOfRange, RankNotAbove}
use Rattle.settlement.specs.Tables.{Buffers}
use Rattle.sheets.specs.Sheet.{Sheet}
use Rattle.state.specs.Cells.{Cells, cells_offered}
use Rattle.state.specs.State.{Kept, cells_of, complete, kept, sheet_of}
use Rattle.state.specs.declared.ledger.Ledger.{Ledger}
use Rattle.sums.proofs.TestLaws.{by-pick, pick-false}

-- the call can return it
abbrev pub Reply : plain.Answer → Type 0
Reply a = (x : Answer) × (reply_of x ≡ a)

fine : Reply accepted
fine = (Answer.Accepted, refl)

turned : (r : Refusal) → Reply (refused (refusal_number r) (refusal_place r))
turned r = (Answer.Refused r, refl)

tested : (t : Bool) (r : Refusal) → Reply (refuse t (refusal_number r) (refusal_place r))
unfolding refuse
tested true r = turned r
tested false r = fine

after : (a b : plain.Answer) → Reply a → Reply b → Reply (a then b)
unfolding ◌then◌
after accepted b p q = q
after (refused n k) b p q = p
after no_offer b p q = p

each : (n : ℕ) (f : ℕ → plain.Answer) → ((i : ℕ) → Reply (f i)) → Reply (first_to n f)
unfolding first_to
each zero f h = fine
each (suc n) f h = after (first_to n f) (f n) (each n f h) (h n)

lent : (needs lengths : List ℕ) → Reply (lent_answer needs lengths)
unfolding lent_answer
lent [] lengths = fine
lent (n ∷ needs) [] = turned (BufferShort n)
lent (n ∷ needs) (k ∷ lengths) = after _ _ (tested (ltb k n) (BufferShort n)) (lent needs lengths)

idle : (o : Offer) → Reply (idle_answer o)
unfolding idle_answer
idle (values lengths b) = fine
idle (frame lengths bytes at) = by-pick Reply (leb (length bytes) at) (λ e. (Answer.NoByte, refl)) (λ e. fine)

parsed : (p : Parsed) → Reply (parsed_answer p)
parsed (block b) = fine
parsed (wrong r) = turned r

front : (S : Sheet) (o : Offer) → Reply (front_answer S o)
unfolding front_answer values_answer
front S (values lengths b) = after _ _ (tested _ (OutOfRange 0)) (tested _ (OutOfRange 0))
front S (frame lengths bytes at) = parsed (parse S bytes at)

cited : (S : Sheet) (H : History) (b : Values) (q : ℕ) → Reply (cite_answer S H b q)
unfolding cite_answer
cited S H b q = after _ _ (tested _ (NoTransaction q)) (after _ _ (tested _ (NoPart q)) (tested _ (CitedBefore q)))

judged : (S : Sheet) (H : History) (b : Values) → Reply (block_answer S H b)
unfolding block_answer
judged S H b =
    after _ _ (tested _ NoInstance)
    (after _ _ (tested _ LogFull)
    (after _ _ (tested _ (NotNumberDue _))
    (after _ _ (tested _ (RankNotAbove _))
    (after _ _ (each _ _ (λ e. tested _ (EntryBack e)))
    (after _ _ (each _ _ (λ e. tested _ (EntryAhead e))) (each _ _ (cited S H b)))))))

early : (at : ℕ) (f : Framed) → Reply (early_frame at f)
early at (Ok (Some span)) = turned (KindNotDue at)
early at (Err r) = turned r
early at (Ok None) = turned (KindNotDue at)

early-front : (o : Offer) → Reply (early_front o)
unfolding early_front
early-front (values lengths b) = turned (KindNotDue 0)
early-front (frame lengths bytes at) = early at (frame_at bytes at)

pub replies : (l : Ledger) (K : Kept) (o : Offer) → Reply (answer_from l K o)
unfolding answer_from answer early_answer
replies l K o =
    by-pick Reply (complete l)
    (λ e. after _ _ (idle o) (after _ _ (lent _ _) (after _ _ (front (sheet_of l K) o) (judged (sheet_of l K) _ _))))
    (λ e. after _ _ (idle o) (after _ _ (lent _ _) (early-front o)))

-- the answer to a call for a reading is one of them, too
pub read_replies : (c : Bool) (S : Sheet) (r : Report) (q : Query) (lengths : List ℕ) → Reply (read_answer c S r q lengths)
unfolding read_answer
read_replies c S r q lengths = after _ _ (tested (not c) (KindNotDue 0)) (lent _ lengths)

-- an offer that comes too early is not accepted
pub early_not : (S : Sheet) (o : Offer) → is_accepted (early_answer S o) ≡ false
unfolding early_answer early_front
early_not S o = then_not (idle_answer o) _ (then_not (lent_answer (offer_needs S) (lent_of o)) _ (by-offer o))
  where
    by_frame : (at : ℕ) (f : Framed) → is_accepted (early_frame at f) ≡ false
    by_frame at (Ok (Some span)) = refl
    by_frame at (Err r) = refl
    by_frame at (Ok None) = refl

    by-offer : (o : Offer) → is_accepted (early_front o) ≡ false
    by-offer (values lengths b) = refl
    by-offer (frame lengths bytes at) = by_frame at (frame_at bytes at)

-- an offer that is not accepted leaves the ledger as it was
pub refused_same : (l : Ledger) (K : Kept) (W : Buffers) (o : Offer) (r : Offered) (K' : Kept) (W' : Buffers) → Offers l K W o r K' W' → is_accepted (answer_from l K o) ≡ false → r.ledger ≡ l
unfolding cells_offered
refused_same l K W o r K' W' p e =
    ap₂ {C = Ledger} (λ (s : Loading) (h : List ℕ). record { loading = s; heights = h }) p.loading (ap (λ (C : Cells). C.heights) (p.cells ∙ pick-false _ _ _ e))

pub early_same : (l : Ledger) (K : Kept) (W : Buffers) (o : Offer) (r : Offered) (K' : Kept) (W' : Buffers) → complete l ≡ false → Offers l K W o r K' W' → r.ledger ≡ l
unfolding answer_from
early_same l K W o r K' W' e p = refused_same l K W o r K' W' p (ap is_accepted (pick-false _ _ _ e) ∙ early_not (sheet_of l K) o)

-- the cells that the call leaves, and its result
abbrev pub cells_left : Ledger → Kept → Offer → Cells
cells_left l K o = cells_offered (sheet_of l K) (answer_from l K o) (offered (sheet_of l K) o) (cells_of l K)

abbrev pub kept_left : Ledger → Kept → Offer → Kept
kept_left l K o = kept K.sheet (cells_left l K o).ranks (cells_left l K o).cuts (cells_left l K o).cites (cells_left l K o).good

abbrev pub result : Ledger → Kept → Offer → Offered
result l K o = record { answer = (replies l K o).0; ledger = record { loading = l.loading; heights = (cells_left l K o).heights } }

pub built : (l : Ledger) (K : Kept) (W : Buffers) (o : Offer) → Offers l K W o (result l K o) (kept_left l K o) W
built l K W o = record {
  answered = (replies l K o).1;
  loading = refl;
  sheet = refl;
  cells = refl;
  quiet = λ e. refl;
  beyond = record { counts = refl; table = refl; order = refl; counts-length = refl; table-length = refl; order-length = refl };
}
