-- The calls of the boundary, from the library's.
-- Assumes nothing.
use Prim.Native.Nat.{◌<◌, ◌≤◌, ℕ}
use lib.ListN.{length}
use mathlib.Core.Bool.{Bool}
use mathlib.Core.List.{List}
use mathlib.Core.Path.{◌≡◌, refl, sym}
use native.Mathlib.Omega.{arith}
use Rattle.encoding.specs.Writing.{Wrote}
use Rattle.encoding.specs.Writing.{Written}
use Rattle.frames.specs.declared.step.Loading.{Loading}
use Rattle.offers.specs.Offering.{Offers, reply_of}
use Rattle.offers.specs.declared.answer.Offered.{Offered}
use Rattle.plain.specs.Answer.{Answer, is_accepted}
use Rattle.plain.specs.Offers.{Offer}
use Rattle.plain.specs.Report.{Query}
use Rattle.readings.specs.Reading.{Reads}
use Rattle.refusals.specs.Refusals.{Checked}
use Rattle.rugxeni.specs.Boundary.{LoadCall, OfferCall, ReadCall, WriteCall}
use Rattle.rugxeni.specs.Numbers.{Said, is_taken, ledger_in, load_number, load_place, number_of, numbers_of, place_of, size, written_number, written_place}
use Rattle.settlement.specs.Tables.{Buffers}
use Rattle.state.specs.Loading.{LoadsSheet}
use Rattle.state.specs.State.{Kept}
use Rattle.state.specs.declared.ledger.Ledger.{Ledger}
use Rattle.state.specs.declared.load.Loaded.{Loaded}
use Rattle.sums.specs.Seq.{fill}
use Rattle.sums.specs.Test.{pick}

module _ {numbers run : List ℕ} {at : ℕ} {sheet told : List ℕ} {code : ℕ} {told' : List ℕ} where
  pub load-short : length numbers < size → Said 16 size 0 code told told' → LoadCall numbers run at sheet told code numbers sheet told'
  load-short h s = record { short = λ u. (s, refl, refl); loads = λ u. absurd (omega arith) }

  pub load_done : {numbers' sheet' : List ℕ} → size ≤ length numbers → (l : Ledger) (r : Loaded) → l ≡ ledger_in numbers → LoadsSheet l run at sheet sheet' r
      → {b : Bool} → b ≡ is_taken r.answer → numbers' ≡ pick b (fill (numbers_of r.ledger) numbers) numbers → Said (load_number r.answer) (load_place r.answer) 0 code told told'
      → LoadCall numbers run at sheet told code numbers' sheet' told'
  load_done h l r e p t k s = record { short = λ u. absurd (omega arith); loads = λ u. (r, rw (sym e) p, rw (sym t) k, s) }

module _ {numbers : List ℕ} {K : Kept} {W : Buffers} {o : Offer} {told : List ℕ} {code : ℕ} {told' : List ℕ} where
  pub offer-short : length numbers < size → Said 16 size 0 code told told' → OfferCall numbers K W o told code numbers K W told'
  offer-short h s = record { short = λ u. (s, refl, refl, refl); offers = λ u. absurd (omega arith) }

  pub offer_done : {numbers' : List ℕ} {K' : Kept} {W' : Buffers} → size ≤ length numbers → (l : Ledger) (r : Offered) → l ≡ ledger_in numbers → Offers l K W o r K' W'
      → {b : Bool} → b ≡ is_accepted (reply_of r.answer) → numbers' ≡ pick b (fill (numbers_of r.ledger) numbers) numbers → Said (number_of (reply_of r.answer)) (place_of (reply_of r.answer)) 0 code told told'
      → OfferCall numbers K W o told code numbers' K' W' told'
  offer_done h l r e p t k s = record { short = λ u. absurd (omega arith); offers = λ u. (r, rw (sym e) p, rw (sym t) k, s) }

module _ {numbers : List ℕ} {K : Kept} {W : Buffers} {q : Query} {outs : List (List ℕ)} {told : List ℕ} {code : ℕ} {told' : List ℕ} where
  pub read_short : length numbers < size → Said 16 size 0 code told told' → ReadCall numbers K W q outs told code W outs told'
  read_short h s = record { short = λ u. (s, refl, refl); reads = λ u. absurd (omega arith) }

  pub read_done : {W' : Buffers} {outs' : List (List ℕ)} → size ≤ length numbers → (l : Ledger) (a : Answer) (n : ℕ) → l ≡ ledger_in numbers → Reads l K W q outs a n W' outs'
      → Said (number_of a) (place_of a) n code told told' → ReadCall numbers K W q outs told code W' outs' told'
  read_done h l a n e p s = record { short = λ u. absurd (omega arith); reads = λ u. (a, n, rw (sym e) p, s) }

module _ {numbers : List ℕ} {checked : Loading → Checked} {frame : Loading → List ℕ} {out told : List ℕ} {code : ℕ} {told' : List ℕ} where
  pub write-short : length numbers < size → Said 16 size 0 code told told' → WriteCall numbers checked frame out told code out told'
  write-short h s = record { short = λ u. (s, refl); writes = λ u. absurd (omega arith) }

  pub write_done : {out' : List ℕ} → size ≤ length numbers → (l : Ledger) (w : Written) → l ≡ ledger_in numbers → Wrote (checked l.loading) (frame l.loading) out out' w
      → Said (written_number w) (written_place w) 0 code told told' → WriteCall numbers checked frame out told code out' told'
  write_done h l w e p s = record { short = λ u. absurd (omega arith); writes = λ u. (w, rw (sym e) p, s) }
