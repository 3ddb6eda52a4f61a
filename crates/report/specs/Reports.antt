-- The call for the text that `readrun` prints of a run (document 01, "One reading, whole").
-- Assumes nothing.
use Rattle.std.specs.Prelude.{◌≤◌, ℕ, drop, length, false, true, List, [], ◌++◌, ◌∷◌, ◌≡◌}
use Rattle.extent.specs.Buffers.{bytes_of, offer_widths}
use Rattle.plain.specs.Answer.{Answer, is_accepted}
use Rattle.plain.specs.Plain.{lent_answer}
use Rattle.replay.specs.Reading.{reading_text}
use Rattle.settlement.specs.Tables.{Buffers}
use Rattle.state.specs.State.{Kept, lengths_of}

-- least lengths, in the order of the call: those of the largest sheet (docs/BUFFERS.md), and the text's
abbrev pub report_needs : List ℕ
report_needs = 110592 ∷ 2048 ∷ 32768 ∷ 65536 ∷ 65536 ∷ 2048 ∷ 1024 ∷ 2048 ∷ 262144 ∷ []

-- they keep to "at most 4,194,304 bytes" as the buffers of every other call do
abbrev pub ReportFits : Type 0
ReportFits = bytes_of (offer_widths ++ (1 ∷ [])) report_needs ≤ 4194304

-- Each buffer is as it was from its least length on. Up to there, where it holds the ledger while the run is read, it is left free
pub record Spared (K : Kept) (W : Buffers) (K' : Kept) (W' : Buffers) : Type 0 where
  pub sheet : drop 110592 K'.sheet ≡ drop 110592 K.sheet
  pub ranks : drop 2048 K'.ranks ≡ drop 2048 K.ranks
  pub cuts : drop 32768 K'.cuts ≡ drop 32768 K.cuts
  pub cites : drop 65536 K'.cites ≡ drop 65536 K.cites
  pub good : drop 65536 K'.good ≡ drop 65536 K.good
  pub counts : drop 2048 W'.counts ≡ drop 2048 W.counts
  pub table : drop 1024 W'.table ≡ drop 1024 W.table
  pub order : drop 2048 W'.order ≡ drop 2048 W.order

-- The run's text stands at the front of `out`, whole, n is its length, and behind it `out` is as it was. A refusal leaves every buffer as it was; else the other buffers are as they were from their least lengths on
pub record Reports (run : List ℕ) (K : Kept) (W : Buffers) (out : List ℕ) (a : Answer) (n : ℕ) (K' : Kept) (W' : Buffers) (out' : List ℕ) : Type 0 where
  pub answered : a ≡ lent_answer report_needs (lengths_of K W ++ (length out ∷ []))
  pub inside : n ≤ length out
  pub text : is_accepted a ≡ true → (n ≡ length (reading_text run)) × (out' ≡ reading_text run ++ drop n out)
  pub spared : is_accepted a ≡ true → Spared K W K' W'
  pub quiet : is_accepted a ≡ false → (n ≡ 0) × (K' ≡ K) × (W' ≡ W) × (out' ≡ out)
