-- What each clause of the contract for a run's text gives the caller. One law a clause: whoever loses a clause breaks its law.
-- Assumes nothing.
use Prim.Native.Nat.{◌≤◌, ℕ}
use lib.ListN.{drop, length}
use mathlib.Core.Bool.{false, true}
use mathlib.Core.List.{List, [], ◌++◌, ◌∷◌}
use mathlib.Core.Path.{◌≡◌}
use Rattle.plain.specs.Answer.{Answer, is_accepted}
use Rattle.plain.specs.Plain.{lent_answer}
use Rattle.replay.specs.Reading.{reading_text}
use Rattle.report.specs.Reports.{Reports, Spared, report_needs}
use Rattle.settlement.specs.Tables.{Buffers}
use Rattle.state.specs.State.{Kept, lengths_of}

-- nothing is written behind the least lengths
module _ {K : Kept} {W : Buffers} {K' : Kept} {W' : Buffers} (p : Spared K W K' W') where
  pub spared-sheet : drop 110592 K'.sheet ≡ drop 110592 K.sheet
  spared-sheet = p.sheet

  pub spared-ranks : drop 2048 K'.ranks ≡ drop 2048 K.ranks
  spared-ranks = p.ranks

  pub spared-cuts : drop 32768 K'.cuts ≡ drop 32768 K.cuts
  spared-cuts = p.cuts

  pub spared-cites : drop 65536 K'.cites ≡ drop 65536 K.cites
  spared-cites = p.cites

  pub spared-good : drop 65536 K'.good ≡ drop 65536 K.good
  spared-good = p.good

  pub spared-counts : drop 2048 W'.counts ≡ drop 2048 W.counts
  spared-counts = p.counts

  pub spared-table : drop 1024 W'.table ≡ drop 1024 W.table
  spared-table = p.table

  pub spared-order : drop 2048 W'.order ≡ drop 2048 W.order
  spared-order = p.order

module _ {run : List ℕ} {K : Kept} {W : Buffers} {out : List ℕ} {a : Answer} {n : ℕ}
    {K' : Kept} {W' : Buffers} {out' : List ℕ} (p : Reports run K W out a n K' W' out') where
  -- refusal 16 by the lengths alone
  pub report-answered : a ≡ lent_answer report_needs (lengths_of K W ++ (length out ∷ []))
  report-answered = p.answered

  pub report-inside : n ≤ length out
  report-inside = p.inside

  -- the whole text, and nothing else of the buffer
  pub report-text : is_accepted a ≡ true → (n ≡ length (reading_text run)) × (out' ≡ reading_text run ++ drop n out)
  report-text = p.text

  pub report-spared : is_accepted a ≡ true → Spared K W K' W'
  report-spared = p.spared

  -- a refused call leaves all nine buffers as they were
  pub report-quiet : is_accepted a ≡ false → (n ≡ 0) × (K' ≡ K) × (W' ≡ W) × (out' ≡ out)
  report-quiet = p.quiet
