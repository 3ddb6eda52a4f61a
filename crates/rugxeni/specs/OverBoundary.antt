-- Demand 3 for who links the static library: a list of calls of the boundary, from all-zero numbers on (document 01, "What the promises hold to", e and f).
-- Each step is, word for word, what the call's contract says.
-- Assumes nothing.
use Rattle.std.specs.Prelude.{◌<◌, ◌≤◌, ℕ, eqb, get_or, length, replicate, false, true, List, [], ◌∷◌, ◌≡◌}
use Rattle.demand.specs.Chain.{Event, InUse, SameFront, SameLedger, asked, no_sheet, offered, sheet_after}
use Rattle.demand.specs.Claim.{Agree, Read, logs_of}
use Rattle.demand.specs.Exists.{Lends, events_from}
use Rattle.frames.specs.Frame.{body_at, frame_at}
use Rattle.frames.specs.declared.step.Loading.{Loading}
use Rattle.frames_load.specs.Load.{room}
use Rattle.offers.specs.Offering.{reply_of}
use Rattle.plain.specs.Answer.{Answer, accepted, is_accepted, no_offer, refused}
use Rattle.plain.specs.Logs.{empty_logs}
use Rattle.plain.specs.Offers.{Offer, lent_of, offer_needs}
use Rattle.plain.specs.Plain.{lent_answer}
use Rattle.plain.specs.Report.{Query, work_needs}
use Rattle.readings.specs.Reading.{lent_to, work_lengths}
use Rattle.refusals.specs.Refusals.{Checked}
use Rattle.rugxeni.specs.Boundary.{LoadCall, OfferCall, ReadCall, ReportCall, WriteCall}
use Rattle.rugxeni.specs.Numbers.{Said, frame_kind, frame_number, frame_place, ledger_in, size}
use Rattle.settlement.specs.Tables.{Buffers}
use Rattle.sheets.specs.Sheet.{Sheet}
use Rattle.state.specs.Lengths.{least_lengths}
use Rattle.state.specs.State.{Kept, complete, kept, lengths_of, sheet_of}
use Rattle.state.specs.Loading.{Taken}
use Rattle.sums.specs.Seq.{All}
use Rattle.sums.specs.Test.{pick}

-- ---- what a call's contract says to those who lend 22 numbers

-- the answer to a frame of the sheet
abbrev pub taken : {n run : List ℕ} {at : ℕ} {sheet told : List ℕ} {code : ℕ} {n' sheet' told' : List ℕ}
    → LoadCall n run at sheet told code n' sheet' told' → size ≤ length n → Taken
taken c h = (c.loads h).0.answer

-- the answer to an offer
abbrev pub answered : {n : List ℕ} {K : Kept} {W : Buffers} {o : Offer} {told : List ℕ} {code : ℕ} {n' : List ℕ} {K' : Kept} {W' : Buffers} {told' : List ℕ}
    → OfferCall n K W o told code n' K' W' told' → size ≤ length n → Answer
answered c h = reply_of (c.offers h).0.answer

-- what the caller sees of a call for a reading, with the lengths of the buffers lent for it
abbrev pub reads : {n : List ℕ} {K : Kept} {W : Buffers} {q : Query} {outs : List (List ℕ)} {told : List ℕ} {code : ℕ} {W' : Buffers} {outs' : List (List ℕ)}
    {told' : List ℕ} → ReadCall n K W q outs told code W' outs' told' → size ≤ length n → Event
reads {K = K} {W = W} {q = q} {outs = outs} {outs' = outs'} c h =
    asked (record { query = q; work = work_lengths q K W; lists = outs; answer = (c.reads h).0; value = (c.reads h).1; filled = outs' })

-- ---- the calls

-- A call to which nothing that a ledger keeps is lent to be written: it leaves every ledger as it was
pub data Apart : Type 0 where
  -- the writers, which only read the numbers
  write : {n out out' told told' : List ℕ} {checked : Loading → Checked} {frame : Loading → List ℕ} {code : ℕ}
      → WriteCall n checked frame out told code out' told' → Apart
  -- rugxeni_report, with buffers of its own
  report : {run out out' told told' : List ℕ} {J J' : Kept} {W W' : Buffers} {code : ℕ} → ReportCall run J W out told code J' W' out' told' → Apart
  -- rugxeni_frame
  frame : {told told' : List ℕ} {code : ℕ} (bytes : List ℕ) (at : ℕ)
      → Said (frame_number (frame_at bytes at)) (frame_place (frame_at bytes at)) (frame_kind (frame_at bytes at)) code told told' → Apart
  -- a reading with fewer than 22 numbers
  read : {n told told' : List ℕ} {code : ℕ} {K : Kept} {W W' : Buffers} {q : Query} {outs outs' : List (List ℕ)}
      → length n < size → ReadCall n K W q outs told code W' outs' told' → Apart

-- The 22 numbers (or more), the cells of the sheet, and the sheet that the frames have said so far
pub data BoundaryOpening : List ℕ → List ℕ → Sheet → Type 0 where
  -- "All zero is a fresh ledger"
  begin : {n cells : List ℕ} → size ≤ length n → SameFront size n (replicate size 0) → BoundaryOpening n cells no_sheet
  -- rugxeni_load
  load : {n cells run told n' cells' told' : List ℕ} {at code : ℕ} {S : Sheet} → BoundaryOpening n cells S
      → (h : size ≤ length n) (c : LoadCall n run at cells told code n' cells' told')
      → BoundaryOpening n' cells' (sheet_after (ledger_in n).loading (body_at run at) S (taken c h))
  -- the same with other cells than the kept ones, too short for the sheet
  few : {n cells other run told n' other' told' : List ℕ} {at code : ℕ} {S : Sheet} → BoundaryOpening n cells S → length other < room (ledger_in n).loading
      → LoadCall n run at other told code n' other' told' → BoundaryOpening n' cells S
  -- an offer, with any buffers, that comes too early
  early : {n cells told n' told' : List ℕ} {code : ℕ} {S : Sheet} {K K' : Kept} {W W' : Buffers} {o : Offer} → BoundaryOpening n cells S
      → complete (ledger_in n) ≡ false → OfferCall n K W o told code n' K' W' told' → BoundaryOpening n' cells S
  -- a call that leaves every ledger as it was
  beside : {n cells : List ℕ} {S : Sheet} → BoundaryOpening n cells S → Apart → BoundaryOpening n cells S
  -- rugxeni_load with fewer than 22 numbers
  load_less : {n p cells run told p' cells' told' : List ℕ} {at code : ℕ} {S : Sheet} → BoundaryOpening n cells S → length p < size
      → LoadCall p run at cells told code p' cells' told' → BoundaryOpening n cells' S
  -- an offer with fewer than 22 numbers, the cells being lent
  offer_less : {n p told p' told' : List ℕ} {code : ℕ} {S : Sheet} {K K' : Kept} {W W' : Buffers} {o : Offer} → BoundaryOpening n K.sheet S → length p < size
      → OfferCall p K W o told code p' K' W' told' → BoundaryOpening n K'.sheet S
  -- rugxeni_report with the cells themselves, among buffers that are too short
  reported : {n run out out' told told' : List ℕ} {code : ℕ} {K K' : Kept} {W W' : Buffers} {S : Sheet} → BoundaryOpening n K.sheet S
      → (c : ReportCall run K W out told code K' W' out' told') → is_accepted c.reports.0 ≡ false → BoundaryOpening n K'.sheet S
  -- numbers and cells are kept elsewhere from here on
  moved : {n n' cells cells' : List ℕ} {S : Sheet} → BoundaryOpening n cells S → size ≤ length n' → SameFront size n' n
      → (2 ≤ (ledger_in n).loading.stage → SameFront (least_lengths (ledger_in n)).sheet cells' cells) → BoundaryOpening n' cells' S

-- Calls in any order, from the numbers and the kept buffers to those afterwards
pub data BoundaryCalls : List ℕ → Kept → List Event → List ℕ → Kept → Type 0 where
  stop : {n : List ℕ} {K : Kept} → BoundaryCalls n K [] n K
  -- rugxeni_offer_block, rugxeni_offer_frame
  offer : {n n' n'' told told' : List ℕ} {code : ℕ} {K K' K'' : Kept} {es : List Event} {W W' : Buffers} {o : Offer}
      (h : size ≤ length n) → lent_of o ≡ lengths_of K W → (c : OfferCall n K W o told code n' K' W' told')
      → BoundaryCalls n' K' es n'' K'' → BoundaryCalls n K (offered o (answered c h) ∷ es) n'' K''
  -- the same with other buffers than the kept ones, too short for the sheet
  short : {n n' n'' told told' : List ℕ} {code : ℕ} {K J J' K' : Kept} {es : List Event} {W W' : Buffers} {o : Offer}
      (h : size ≤ length n) → lent_of o ≡ lengths_of J W → is_accepted (lent_answer (offer_needs (sheet_of (ledger_in n) K)) (lent_of o)) ≡ false
      → (c : OfferCall n J W o told code n' J' W' told')
      → BoundaryCalls n' K es n'' K' → BoundaryCalls n K (offered o (answered c h) ∷ es) n'' K'
  -- rugxeni_accounts, rugxeni_registers, rugxeni_settlements, rugxeni_share, rugxeni_log
  reading : {n n' told told' : List ℕ} {code : ℕ} {K K' : Kept} {es : List Event} {W W' : Buffers} {q : Query} {outs outs' : List (List ℕ)}
      (h : size ≤ length n) (c : ReadCall n (lent_to q K) W q outs told code W' outs' told')
      → BoundaryCalls n K es n' K' → BoundaryCalls n K (reads c h ∷ es) n' K'
  -- the same with other buffers than the kept ones, too short for the sheet
  few-read : {n n' told told' : List ℕ} {code : ℕ} {K K' : Kept} {es : List Event} {W W' : Buffers} {q : Query} {outs outs' : List (List ℕ)}
      (h : size ≤ length n) (J : Kept) → is_accepted (lent_answer (work_needs (sheet_of (ledger_in n) K) q) (work_lengths q (lent_to q J) W)) ≡ false
      → (c : ReadCall n (lent_to q J) W q outs told code W' outs' told')
      → BoundaryCalls n K es n' K' → BoundaryCalls n K (reads c h ∷ es) n' K'
  -- rugxeni_load, which finds nothing left to load
  loading : {n n' n'' run told cells told' : List ℕ} {at code : ℕ} {K K' : Kept} {es : List Event} → LoadCall n run at K.sheet told code n' cells told'
      → BoundaryCalls n' (kept cells K.ranks K.cuts K.cites K.good) es n'' K' → BoundaryCalls n K es n'' K'
  -- the same with any other cells
  few-load : {n n' n'' run told other other' told' : List ℕ} {at code : ℕ} {K K' : Kept} {es : List Event} → LoadCall n run at other told code n' other' told'
      → BoundaryCalls n' K es n'' K' → BoundaryCalls n K es n'' K'
  -- a call that leaves every ledger as it was
  beside : {n n' : List ℕ} {K K' : Kept} {es : List Event} → Apart → BoundaryCalls n K es n' K' → BoundaryCalls n K es n' K'
  -- rugxeni_load with fewer than 22 numbers
  load_less : {n n' p run told p' cells told' : List ℕ} {at code : ℕ} {K K' : Kept} {es : List Event} → length p < size
      → LoadCall p run at K.sheet told code p' cells told'
      → BoundaryCalls n (kept cells K.ranks K.cuts K.cites K.good) es n' K' → BoundaryCalls n K es n' K'
  -- an offer with fewer than 22 numbers
  offer_less : {n n' p told p' told' : List ℕ} {code : ℕ} {K K' K'' : Kept} {es : List Event} {W W' : Buffers} {o : Offer} → length p < size
      → OfferCall p K W o told code p' K' W' told' → BoundaryCalls n K' es n' K'' → BoundaryCalls n K es n' K''
  -- rugxeni_report with the kept buffers themselves, where one that is lent is too short
  reported : {n n' run out out' told told' : List ℕ} {code : ℕ} {K K' K'' : Kept} {es : List Event} {W W' : Buffers}
      (c : ReportCall run K W out told code K' W' out' told') → is_accepted c.reports.0 ≡ false → BoundaryCalls n K' es n' K'' → BoundaryCalls n K es n' K''
  -- numbers and ledger are kept elsewhere from here on
  anew : {n n' n'' : List ℕ} {K J K' : Kept} {es : List Event} → size ≤ length n' → SameFront size n' n → SameLedger (ledger_in n) K J
      → BoundaryCalls n' J es n'' K' → BoundaryCalls n K es n'' K'

-- numbers and buffers on which calls were made that the caller saw as es, the sheet being S
pub record BoundaryUse (S : Sheet) (es : List Event) (n : List ℕ) (K : Kept) : Type 0 where
  pub first : List ℕ
  pub lent : Kept
  pub opened : BoundaryOpening first lent.sheet S
  pub whole : complete (ledger_in first) ≡ true
  pub calls : BoundaryCalls first lent es n K

-- ---- the claims

-- for every sheet that the boundary's calls loaded and every list of offers there is a list of its calls with these events
abbrev pub BoundaryChainsExist : Type 0
BoundaryChainsExist = (S : Sheet) (n cells : List ℕ) → BoundaryOpening n cells S → complete (ledger_in n) ≡ true → (os : List Offer) → All Lends os
    → (n' : List ℕ) × (K' : Kept) × BoundaryUse S (events_from S (empty_logs S) os) n' K'

-- the answer by a code that was returned and the place that was told: 0 is accepted, 255 no offer
unfoldable pub answer_by : ℕ → ℕ → Answer
answer_by code place = pick (eqb code 0) accepted (pick (eqb code 255) no_offer (refused code place))

pub record OverBoundary : Type 0 where
  -- the ledger that the numbers say is in use: a list of the boundary's calls is one of demand 3's
  pub in_use : (S : Sheet) (es : List Event) (n : List ℕ) (K : Kept) → BoundaryUse S es n K → (size ≤ length n) × InUse S es (ledger_in n) K
  -- so demand 3 speaks of it
  pub one : (S : Sheet) (es : List Event) (n : List ℕ) (K : Kept) → BoundaryUse S es n K → Read S es (ledger_in n) K (logs_of S es)
  pub two : (S : Sheet) (es es' : List Event) (n n' : List ℕ) (K K' : Kept) → BoundaryUse S es n K → BoundaryUse S es' n' K'
      → Agree S (ledger_in n) K (logs_of S es) (ledger_in n') K' (logs_of S es')
  -- the answers in es are those that the caller saw, where two places were lent to tell place and value
  pub seen : {n : List ℕ} {K : Kept} {W : Buffers} {o : Offer} {told : List ℕ} {code : ℕ} {n' : List ℕ} {K' : Kept} {W' : Buffers} {told' : List ℕ}
      (c : OfferCall n K W o told code n' K' W' told') (h : size ≤ length n) → 2 ≤ length told → answered c h ≡ answer_by code (get_or told' 0 0)
  pub seen_read : {n : List ℕ} {K : Kept} {W : Buffers} {q : Query} {outs : List (List ℕ)} {told : List ℕ} {code : ℕ} {W' : Buffers} {outs' : List (List ℕ)}
      {told' : List ℕ} (c : ReadCall n K W q outs told code W' outs' told') (h : size ≤ length n) → 2 ≤ length told
      → reads c h
      ≡ asked (record { query = q; work = work_lengths q K W; lists = outs; answer = answer_by code (get_or told' 0 0); value = get_or told' 1 0; filled = outs' })
