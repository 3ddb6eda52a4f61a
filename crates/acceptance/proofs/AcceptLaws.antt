-- An accepted block step by step: stored, judged, counted.
-- Assumes nothing.
use Prim.Native.Nat.{◌*◌, ◌+◌, ◌<◌, ℕ}
use lib.ListN.{get_or, set}
use mathlib.Core.List.{List}
use mathlib.Core.Path.{◌∙◌, ◌≡◌, ap, refl, sym}
use native.Mathlib.Omega.{arith}
use Rattle.admission.specs.Citing.{cites_in, values_of, values_with}
use Rattle.acceptance.proofs.TakeLaws.{judgeable, space, taken_is}
use Rattle.state.specs.Cells.{Cells, heights_in, stored_in, taken_in}
use Rattle.acceptance.specs.Judging.{Judgeable, Stores, judged_good}
use Rattle.state.specs.State.{Beyond, Kept, cells_of, kept, sheet_of, sizes_of}
use Rattle.acceptance.specs.Taking.{Takeable, Takes, raised_to}
use Rattle.settlement.specs.Tables.{Buffers}
use Rattle.settlement.specs.View.{no_cite}
use Rattle.sheets.specs.Sheet.{sheet_in}
use Rattle.sums.specs.Fold.{fold_to}
use Rattle.sums.specs.Seq.{written}
use Rattle.admission.specs.declared.citations.Citations.{Citations}
use Rattle.frames.specs.declared.block.Block.{Block}
use Rattle.state.specs.declared.ledger.Ledger.{Ledger}
use Rattle.sheets.specs.declared.sheet.Sizes.{Sizes}

cells_same : {a a' b b' c c' d d' e e' : List ℕ} → a ≡ a' → b ≡ b' → c ≡ c' → d ≡ d' → e ≡ e'
    → ◌≡◌ {A = Cells} (record { heights = a; ranks = b; cuts = c; cites = d; good = e }) (record { heights = a'; ranks = b'; cuts = c'; cites = d'; good = e' })
cells_same p q r s t = cc

module _ (l : Ledger) (K : Kept) (W : Buffers) (B : Block) (list : Citations) (T : Takeable l K W (values_of B list)) (h : ℕ) (eh : h ≡ heights_in (cells_of l K) B.instance)
    (z : Sizes) (ez : z ≡ sizes_of l) (ranks cuts cites : List ℕ) (stores : Stores B (cites_in list) h K.ranks K.cuts K.cites ranks cuts cites) where
  ranks_are : ranks ≡ (stored_in (values_of B list) (cells_of l K)).ranks
  unfolding stored_in values_with
  ranks_are = stores.ranked ∙ ap (λ (n : ℕ). set K.ranks (B.instance * 128 + n) B.rank.0) eh

  cuts_are : cuts ≡ (stored_in (values_of B list) (cells_of l K)).cuts
  unfolding stored_in values_with
  cuts_are = stores.cut ∙ ap (λ (n : ℕ). written K.cuts ((B.instance * 128 + n) * 16) 16 (λ e. get_or B.cut e 0)) eh

  cites_are : cites ≡ (stored_in (values_of B list) (cells_of l K)).cites
  unfolding stored_in values_with
  cites_are = stores.cited ∙ ap (λ (n : ℕ). written K.cites (B.instance * 4096 + n * 32) 32 (λ q. get_or (cites_in list) q no_cite)) eh

  -- the places of the stored block can be judged
  pub take-ready : (h < 128) × Judgeable z ranks B.cut B.instance h W
  unfolding values_with
  take-ready = (
    omega (arith, space l K W (values_of B list) T),
    rw (ez, ranks_are, eh) (judgeable l K W (values_of B list) T),
  )

  module _ (good : List ℕ) (eg : good ≡ fold_to 32 (λ q. judged_good (sheet_in K.sheet z) ranks cites B.cut B.instance (h * 32 + q)) K.good) (W' : Buffers) (beyond : Beyond z W W')
      (l' : Ledger) (el : l' ≡ raised_to l B.instance (h + 1)) where
    good-is : good ≡ fold_to 32 (λ q. judged_good (sheet_of l K) (stored_in (values_of B list) (cells_of l K)).ranks (stored_in (values_of B list) (cells_of l K)).cites B.cut
        B.instance (heights_in (cells_of l K) B.instance * 32 + q)) K.good
    good-is = eg ∙ rw (ez, ranks_are, cites_are, eh) refl

    cells_are : cells_of l' (kept K.sheet ranks cuts cites good) ≡ taken_in (sheet_of l K) (values_of B list) (cells_of l K)
    unfolding values_with
    cells_are =
        cells_same (ap (λ (x : Ledger). x.heights) el ∙ heights-are) ranks_are cuts_are cites_are good-is
        ∙ sym (taken_is l K W (values_of B list) T)
      where
        heights-are : set l.heights B.instance (h + 1) ≡ (stored_in (values_of B list) (cells_of l K)).heights
        heights-are = unfold stored_in values_with in ap (λ (n : ℕ). set l.heights B.instance (n + 1)) eh

    pub take_done : Takes l K W (values_of B list) l' (kept K.sheet ranks cuts cites good) W'
    take_done = record {
      loading = ap (λ (x : Ledger). x.loading) el;
      cells = cells_are;
      beyond = rw (← ez) beyond;
    }
