-- What each call of the boundary promises: the library's call on the ledger that the numbers say, and 16 with 22 where they are fewer than 22.
-- Assumes nothing.
use Rattle.std.specs.Prelude.{◌<◌, ◌≤◌, ℕ, get_or, length, List, ◌≡◌}
use Rattle.encoding.specs.Writing.{Wrote}
use Rattle.encoding.specs.Writing.{Written}
use Rattle.frames.specs.declared.block.Block.{Block}
use Rattle.frames.specs.declared.header.Header.{Header}
use Rattle.frames.specs.declared.step.Loading.{Loading}
use Rattle.offers.specs.Offering.{Offers, reply_of}
use Rattle.offers.specs.declared.answer.Offered.{Offered}
use Rattle.plain.specs.Answer.{Answer, is_accepted}
use Rattle.plain.specs.Offers.{Offer}
use Rattle.plain.specs.Report.{Query}
use Rattle.readings.specs.Reading.{Reads}
use Rattle.refusals.specs.Refusals.{Checked}
use Rattle.report.specs.Reports.{Reports}
use Rattle.rugxeni.specs.Numbers.{Said, is_taken, ledger_in, load_number, load_place, numbers_of, size}
use Rattle.rugxeni.specs.Numbers.{length_or, number_of, place_of, written_number, written_place}
use Rattle.settlement.specs.Tables.{Buffers}
use Rattle.state.specs.Loading.{LoadsSheet}
use Rattle.state.specs.State.{Kept}
use Rattle.state.specs.declared.load.Loaded.{Loaded}
use Rattle.sums.specs.Seq.{fill, tabulate}
use Rattle.sums.specs.Test.{pick}
use Rattle.transactions_write.specs.declared.Counts.{Counts}

-- the first sixteen entries of a lent cut, 0 where there are fewer
unfoldable pub cut_with : List ℕ → List ℕ
cut_with cut = tabulate 16 (λ e. get_or cut e 0)

abbrev pub block_with : ℕ → ℕ → ℕ → List ℕ → Block
block_with instance sequence rank cut = record { instance = instance; sequence = record { 0 = sequence }; rank = record { 0 = rank }; cut = cut_with cut }

abbrev pub header_with : ℕ → ℕ → ℕ → ℕ → Header
header_with m a g t = record { m = m; a = a; g = g; t = t }

abbrev pub counts_with : ℕ → ℕ → ℕ → ℕ → Counts
counts_with kind debits credits operations = record { kind = kind; debits = debits; credits = credits; operations = operations }

-- only a frame that is taken changes the numbers
pub record LoadCall (numbers run : List ℕ) (at : ℕ) (sheet told : List ℕ) (code : ℕ) (numbers' sheet' told' : List ℕ) : Type 0 where
  pub short : length numbers < size → Said 16 size 0 code told told' × (numbers' ≡ numbers) × (sheet' ≡ sheet)
  pub loads : size ≤ length numbers → (r : Loaded) × LoadsSheet (ledger_in numbers) run at sheet sheet' r
      × (numbers' ≡ pick (is_taken r.answer) (fill (numbers_of r.ledger) numbers) numbers) × Said (load_number r.answer) (load_place r.answer) 0 code told told'

-- only an accepted offer changes the numbers
pub record OfferCall (numbers : List ℕ) (K : Kept) (W : Buffers) (o : Offer) (told : List ℕ) (code : ℕ) (numbers' : List ℕ) (K' : Kept) (W' : Buffers) (told' : List ℕ) : Type 0 where
  pub short : length numbers < size → Said 16 size 0 code told told' × (numbers' ≡ numbers) × (K' ≡ K) × (W' ≡ W)
  pub offers : size ≤ length numbers → (r : Offered) × Offers (ledger_in numbers) K W o r K' W'
      × (numbers' ≡ pick (is_accepted (reply_of r.answer)) (fill (numbers_of r.ledger) numbers) numbers) × Said (number_of (reply_of r.answer)) (place_of (reply_of r.answer)) 0 code told told'

pub record ReadCall (numbers : List ℕ) (K : Kept) (W : Buffers) (q : Query) (outs : List (List ℕ)) (told : List ℕ) (code : ℕ) (W' : Buffers) (outs' : List (List ℕ)) (told' : List ℕ) : Type 0 where
  pub short : length numbers < size → Said 16 size 0 code told told' × (W' ≡ W) × (outs' ≡ outs)
  pub reads : size ≤ length numbers → (a : Answer) × (n : ℕ) × Reads (ledger_in numbers) K W q outs a n W' outs' × Said (number_of a) (place_of a) n code told told'

-- the text of a run, whole: no ledger goes in or comes out
pub record ReportCall (run : List ℕ) (K : Kept) (W : Buffers) (out told : List ℕ)
    (code : ℕ) (K' : Kept) (W' : Buffers) (out' told' : List ℕ) : Type 0 where
  pub reports : (a : Answer) × (n : ℕ) × Reports run K W out a n K' W' out' × Said (number_of a) (length_or n a) 0 code told told'

-- a frame: the writer's verdict on its values and the frame's bytes, each by the sheet so far, which the numbers say
pub record WriteCall (numbers : List ℕ) (checked : Loading → Checked) (frame : Loading → List ℕ) (out told : List ℕ)
    (code : ℕ) (out' told' : List ℕ) : Type 0 where
  pub short : length numbers < size → Said 16 size 0 code told told' × (out' ≡ out)
  pub writes : size ≤ length numbers → (w : Written) × Wrote (checked (ledger_in numbers).loading) (frame (ledger_in numbers).loading) out out' w
      × Said (written_number w) (written_place w) 0 code told told'
