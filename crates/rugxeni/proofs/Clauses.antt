-- What each clause of the boundary's contracts gives the caller. One law a clause: whoever loses a clause breaks its law.
-- Assumes nothing.
use Prim.Native.Nat.{◌<◌, ◌≤◌, ℕ}
use lib.ListN.{length}
use mathlib.Core.List.{List, [], ◌∷◌}
use mathlib.Core.Path.{◌≡◌}
use Rattle.encoding.specs.Writing.{Wrote}
use Rattle.encoding.specs.Writing.{Written}
use Rattle.frames.specs.declared.step.Loading.{Loading}
use Rattle.offers.specs.Offering.{Offers, reply_of}
use Rattle.offers.specs.declared.answer.Offered.{Offered}
use Rattle.plain.specs.Answer.{Answer, is_accepted}
use Rattle.plain.specs.Offers.{Offer}
use Rattle.plain.specs.Report.{Query}
use Rattle.readings.specs.Reading.{Reads}
use Rattle.refusals.specs.Refusals.{Checked}
use Rattle.report.specs.Reports.{Reports}
use Rattle.rugxeni.specs.Boundary.{LoadCall, OfferCall, ReadCall, ReportCall, WriteCall}
use Rattle.rugxeni.specs.Numbers.{Said, is_taken, ledger_in, length_or, load_number, load_place, number_of, numbers_of, place_of, size, written_number, written_place}
use Rattle.settlement.specs.Tables.{Buffers}
use Rattle.state.specs.Loading.{LoadsSheet}
use Rattle.state.specs.State.{Kept}
use Rattle.state.specs.declared.load.Loaded.{Loaded}
use Rattle.sums.specs.Seq.{fill}
use Rattle.sums.specs.Test.{pick}

module _ {number place value code : ℕ} {told told' : List ℕ} (p : Said number place value code told told') where
  pub said_returned : code ≡ number
  said_returned = p.returned

  -- behind the place and the value the slice is as it was
  pub said_written : told' ≡ fill (place ∷ value ∷ []) told
  said_written = p.written

module _ {numbers run : List ℕ} {at : ℕ} {sheet told : List ℕ}
    {code : ℕ} {numbers' sheet' told' : List ℕ} (p : LoadCall numbers run at sheet told code numbers' sheet' told') where
  -- fewer than 22 numbers: 16, and nothing changed
  pub load-short : length numbers < size → Said 16 size 0 code told told' × (numbers' ≡ numbers) × (sheet' ≡ sheet)
  load-short = p.short

  pub load-calls : size ≤ length numbers → (r : Loaded) × LoadsSheet (ledger_in numbers) run at sheet sheet' r
      × (numbers' ≡ pick (is_taken r.answer) (fill (numbers_of r.ledger) numbers) numbers)
      × Said (load_number r.answer) (load_place r.answer) 0 code told told'
  load-calls = p.loads

module _ {numbers : List ℕ} {K : Kept} {W : Buffers} {o : Offer} {told : List ℕ}
    {code : ℕ} {numbers' : List ℕ} {K' : Kept} {W' : Buffers} {told' : List ℕ} (p : OfferCall numbers K W o told code numbers' K' W' told') where
  pub offer-short : length numbers < size → Said 16 size 0 code told told' × (numbers' ≡ numbers) × (K' ≡ K) × (W' ≡ W)
  offer-short = p.short

  pub offer-calls : size ≤ length numbers → (r : Offered) × Offers (ledger_in numbers) K W o r K' W'
      × (numbers' ≡ pick (is_accepted (reply_of r.answer)) (fill (numbers_of r.ledger) numbers) numbers)
      × Said (number_of (reply_of r.answer)) (place_of (reply_of r.answer)) 0 code told told'
  offer-calls = p.offers

module _ {numbers : List ℕ} {K : Kept} {W : Buffers} {q : Query} {outs : List (List ℕ)} {told : List ℕ}
    {code : ℕ} {W' : Buffers} {outs' : List (List ℕ)} {told' : List ℕ} (p : ReadCall numbers K W q outs told code W' outs' told') where
  pub read_short : length numbers < size → Said 16 size 0 code told told' × (W' ≡ W) × (outs' ≡ outs)
  read_short = p.short

  pub read-calls : size ≤ length numbers → (a : Answer) × (n : ℕ) × Reads (ledger_in numbers) K W q outs a n W' outs'
      × Said (number_of a) (place_of a) n code told told'
  read-calls = p.reads

module _ {run : List ℕ} {K : Kept} {W : Buffers} {out told : List ℕ}
    {code : ℕ} {K' : Kept} {W' : Buffers} {out' told' : List ℕ} (p : ReportCall run K W out told code K' W' out' told') where
  pub report-calls : (a : Answer) × (n : ℕ) × Reports run K W out a n K' W' out' × Said (number_of a) (length_or n a) 0 code told told'
  report-calls = p.reports

module _ {numbers : List ℕ} {checked : Loading → Checked} {frame : Loading → List ℕ} {out told : List ℕ}
    {code : ℕ} {out' told' : List ℕ} (p : WriteCall numbers checked frame out told code out' told') where
  pub write-short : length numbers < size → Said 16 size 0 code told told' × (out' ≡ out)
  write-short = p.short

  pub write-calls : size ≤ length numbers → (w : Written) × Wrote (checked (ledger_in numbers).loading) (frame (ledger_in numbers).loading) out out' w
      × Said (written_number w) (written_place w) 0 code told told'
  write-calls = p.writes
