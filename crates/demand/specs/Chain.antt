-- A ledger in use: made fresh, its sheet loaded frame by frame, then calls in any order (document 01, "What the promises hold to", e).
-- Each step is, word for word, what the call's contract says.
-- Assumes nothing.
use Rattle.std.specs.Prelude.{◌<◌, ◌≤◌, ℕ, eqb, length, take, false, true, List, [], ◌∷◌, ◌≡◌, Ok, Err, Some, None}
use Rattle.frames.specs.Frame.{body_at}
use Rattle.frames.specs.Step.{kind_due}
use Rattle.frames.specs.declared.step.Loading.{Loading}
use Rattle.frames_load.specs.Load.{room, with_balances, with_transaction}
use Rattle.offers.specs.Offering.{Offers, reply_of}
use Rattle.offers.specs.declared.answer.Offered.{Offered}
use Rattle.plain.specs.Answer.{Answer, is_accepted}
use Rattle.plain.specs.Offers.{Offer, lent_of, offer_needs}
use Rattle.plain.specs.Plain.{lent_answer}
use Rattle.plain.specs.Report.{Query, work_needs}
use Rattle.readings.specs.Reading.{Reads, lent_to, work_lengths}
use Rattle.settlement.specs.Tables.{Buffers}
use Rattle.sheets.specs.Sheet.{Sheet}
use Rattle.state.specs.Lengths.{least_lengths}
use Rattle.state.specs.Loading.{LoadsSheet}
use Rattle.state.specs.State.{Kept, complete, fresh_ledger, kept, lengths_of, sheet_of}
use Rattle.state.specs.declared.ledger.Ledger.{Ledger}
use Rattle.state.specs.declared.load.Loaded.{Loaded}
use Rattle.state.specs.Loading.{Taken}
use Rattle.sums.specs.Test.{pick}

-- ---- loading

-- before any frame
abbrev pub no_sheet : Sheet
no_sheet = record { m = 0; a = 0; g = 0; balances = []; transactions = [] }

-- the sheet so far with the body b of the kind that was due
unfoldable pub sheet_with : Loading → List ℕ → Sheet → Sheet
sheet_with s b S = pick (eqb (kind_due s) 2) (with_balances s b) (pick (eqb (kind_due s) 3) (with_transaction S b) S)

-- after a call with this answer at a frame of body b: only a frame that was taken adds to it
abbrev pub sheet_after : Loading → List ℕ → Sheet → Taken → Sheet
sheet_after s b S (Ok (Some end)) = sheet_with s b S
sheet_after s b S (Err r) = S
sheet_after s b S (Ok None) = S

-- two buffers that hold the same as far as n; their lengths, and what lies behind, may differ
abbrev pub SameFront : ℕ → List ℕ → List ℕ → Type 0
SameFront n x y = take n x ≡ take n y

-- The ledger, the cells of its sheet, and the sheet that the frames have said so far, from a fresh ledger on.
-- The cells may hold anything at first, and each call may have bytes of its own
pub data Opening : Ledger → List ℕ → Sheet → Type 0 where
  begin : {cells : List ℕ} → Opening fresh_ledger cells no_sheet
  load : {l : Ledger} {cells cells' run : List ℕ} {at : ℕ} {S : Sheet} {r : Loaded} → Opening l cells S → LoadsSheet l run at cells cells' r
      → Opening r.ledger cells' (sheet_after l.loading (body_at run at) S r.answer)
  -- the same with other cells than the kept ones, too short for the sheet
  few : {l : Ledger} {cells other other' run : List ℕ} {at : ℕ} {S : Sheet} {r : Loaded} → Opening l cells S → length other < room l.loading
      → LoadsSheet l run at other other' r → Opening r.ledger cells S
  -- an offer, with any buffers, that comes too early
  early : {l : Ledger} {cells : List ℕ} {S : Sheet} {K K' : Kept} {W W' : Buffers} {o : Offer} {r : Offered} → Opening l cells S → complete l ≡ false
      → Offers l K W o r K' W' → Opening r.ledger cells S
  -- the sheet is kept in other cells from here on: before the balances they hold nothing, then as much as docs/BUFFERS.md says
  moved : {l : Ledger} {cells cells' : List ℕ} {S : Sheet} → Opening l cells S → (2 ≤ l.loading.stage → SameFront (least_lengths l).sheet cells' cells)
      → Opening l cells' S

-- ---- calls

-- what the caller sees of a call for a reading: what was asked, the lengths of the buffers lent for it, the lists lent to be filled; the answer, the number, and the lists afterwards
pub record Asked : Type 0 where
  pub query : Query
  pub work : List ℕ
  pub lists : List (List ℕ)
  pub answer : Answer
  pub value : ℕ
  pub filled : List (List ℕ)

-- what the caller sees of a call
pub data Event : Type 0 where
  offered : Offer → Answer → Event
  asked : Asked → Event

-- buffers J that hold the ledger that K holds: the same as far as docs/BUFFERS.md says
pub record SameLedger (l : Ledger) (K J : Kept) : Type 0 where
  pub sheet : SameFront (least_lengths l).sheet J.sheet K.sheet
  pub ranks : SameFront (least_lengths l).ranks J.ranks K.ranks
  pub cuts : SameFront (least_lengths l).cuts J.cuts K.cuts
  pub cites : SameFront (least_lengths l).cites J.cites K.cites
  pub good : SameFront (least_lengths l).good J.good K.good

-- Calls in any order, from a ledger and its kept buffers to those afterwards. The working buffers are lent to each call anew, with any content
pub data Calls : Ledger → Kept → List Event → Ledger → Kept → Type 0 where
  stop : {l : Ledger} {K : Kept} → Calls l K [] l K
  -- offer_block, offer_frame
  offer : {l l' : Ledger} {K K' K'' : Kept} {es : List Event} {W W' : Buffers} {r : Offered} (o : Offer) → lent_of o ≡ lengths_of K W
      → Offers l K W o r K' W'
      → Calls r.ledger K' es l' K'' → Calls l K (offered o (reply_of r.answer) ∷ es) l' K''
  -- the same with other buffers than the kept ones, too short for the sheet
  short : {l l' : Ledger} {K J J' K' : Kept} {es : List Event} {W W' : Buffers} {r : Offered} (o : Offer) → lent_of o ≡ lengths_of J W
      → is_accepted (lent_answer (offer_needs (sheet_of l K)) (lent_of o)) ≡ false → Offers l J W o r J' W'
      → Calls r.ledger K es l' K' → Calls l K (offered o (reply_of r.answer) ∷ es) l' K'
  -- the ledger is kept in other buffers from here on, longer or shorter ones
  anew : {l l' : Ledger} {K J K' : Kept} {es : List Event} → SameLedger l K J → Calls l J es l' K' → Calls l K es l' K'
  -- accounts, registers, settlements, share, log
  reading : {l l' : Ledger} {K K' : Kept} {es : List Event} {W W' : Buffers} {q : Query} {outs outs' : List (List ℕ)} {a : Answer} {n : ℕ}
      → Reads l (lent_to q K) W q outs a n W' outs'
      → Calls l K es l' K'
      → Calls l K (asked (record { query = q; work = work_lengths q (lent_to q K) W; lists = outs; answer = a; value = n; filled = outs' }) ∷ es) l' K'
  -- the same with other buffers than the kept ones, too short for the sheet
  few-read : {l l' : Ledger} {K K' : Kept} {es : List Event} {W W' : Buffers} {q : Query} {outs outs' : List (List ℕ)} {a : Answer} {n : ℕ} (J : Kept)
      → is_accepted (lent_answer (work_needs (sheet_of l K) q) (work_lengths q (lent_to q J) W)) ≡ false → Reads l (lent_to q J) W q outs a n W' outs'
      → Calls l K es l' K'
      → Calls l K (asked (record { query = q; work = work_lengths q (lent_to q J) W; lists = outs; answer = a; value = n; filled = outs' }) ∷ es) l' K'
  -- load_sheet, which finds nothing left to load
  loading : {l l' : Ledger} {K K' : Kept} {es : List Event} {cells run : List ℕ} {at : ℕ} {r : Loaded}
      → LoadsSheet l run at K.sheet cells r
      → Calls r.ledger (kept cells K.ranks K.cuts K.cites K.good) es l' K' → Calls l K es l' K'
  -- the same with any other cells
  few-load : {l l' : Ledger} {K K' : Kept} {es : List Event} {other other' run : List ℕ} {at : ℕ} {r : Loaded}
      → LoadsSheet l run at other other' r → Calls r.ledger K es l' K' → Calls l K es l' K'

-- "A list of demand 3 starts fresh, the sheet just complete": S is the sheet that the frames said, whatever the other buffers held then, and es what the caller saw since
pub record InUse (S : Sheet) (es : List Event) (l : Ledger) (K : Kept) : Type 0 where
  pub first : Ledger
  pub lent : Kept
  pub opened : Opening first lent.sheet S
  pub whole : complete first ≡ true
  pub calls : Calls first lent es l K
