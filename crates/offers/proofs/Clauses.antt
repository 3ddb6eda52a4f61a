-- What each clause of the contract for offers gives the caller. One law a clause: whoever loses a clause breaks its law.
-- Assumes nothing.
use Prim.Native.Nat.{ℕ}
use mathlib.Core.Bool.{false}
use mathlib.Core.List.{List}
use mathlib.Core.Path.{◌∙◌, ◌≡◌, ap, ap₂}
use Rattle.frames.specs.declared.step.Loading.{Loading}
use Rattle.offers.specs.Offering.{Offers, answer_from, reply_of}
use Rattle.offers.specs.declared.answer.Offered.{Offered}
use Rattle.plain.specs.Answer.{is_accepted}
use Rattle.plain.specs.Offers.{Offer, offered}
use Rattle.settlement.specs.Tables.{Buffers}
use Rattle.state.specs.Cells.{Cells, cells_offered}
use Rattle.state.specs.State.{Beyond, Kept, cells_of, kept, sheet_of, sizes_of}
use Rattle.state.specs.declared.ledger.Ledger.{Ledger}
use Rattle.sums.proofs.TestLaws.{pick-false}

abbrev ledger_with : Loading → List ℕ → Ledger
ledger_with loading heights = record { loading = loading; heights = heights }

module _ {l : Ledger} {K : Kept} {W : Buffers} {o : Offer} {r : Offered} {K' : Kept} {W' : Buffers} (p : Offers l K W o r K' W') where
  -- the answer, number and place
  pub offer-answered : reply_of r.answer ≡ answer_from l K o
  offer-answered = p.answered

  -- no offer changes the sheet's sizes, nor what is loaded
  pub offer-loading : r.ledger.loading ≡ l.loading
  offer-loading = p.loading

  pub offer-sheet : K'.sheet ≡ K.sheet
  offer-sheet = p.sheet

  -- an accepted block is in the cells as it is to be
  pub offer-cells : cells_of r.ledger K' ≡ cells_offered (sheet_of l K) (answer_from l K o) (offered (sheet_of l K) o) (cells_of l K)
  offer-cells = p.cells

  -- a refused offer leaves the working buffers as they were
  pub refused-quiet : is_accepted (answer_from l K o) ≡ false → W' ≡ W
  refused-quiet = p.quiet

  -- and none is written behind its least length
  pub offer-beyond : Beyond (sizes_of l) W W'
  offer-beyond = p.beyond

  -- "nothing changed": a refused offer leaves the ledger and all eight buffers as they were
  pub refused_as_it_was : is_accepted (answer_from l K o) ≡ false → (r.ledger ≡ l) × (K' ≡ K) × (W' ≡ W)
  unfolding cells_offered
  refused_as_it_was h =
      let e : cells_of r.ledger K' ≡ cells_of l K = p.cells ∙ pick-false _ _ _ h in (
        ap₂ ledger_with p.loading (ap (λ (C : Cells). C.heights) e),
        ap₂ (λ (s : List ℕ) (C : Cells). kept s C.ranks C.cuts C.cites C.good) p.sheet e,
        p.quiet h,
      )
