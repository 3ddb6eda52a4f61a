use mathlib.Core.Path.{◌∙◌, ap₂}
use Prim.Native.Nat.{ℕ}
use Rattle.plain.specs.Plain.{block_answer}
use Rattle.sheets.specs.Sheet.{sheet_in}
use Rattle.escrow.specs.Cells.{history_in}
use Rattle.admission.specs.Citing.{values_of}
use Rattle.state.specs.Cells.{past_in}
use Rattle.sheets.specs.declared.sheet.Sizes.{Sizes}
use Rattle.offers.proofs.verdict.block_verdict.Goals as goal

pub returns : goal.returns
unfolding past_in
returns c = c.check_block.ensures ∙ ap₂ (λ (z : Sizes) (h : ℕ → ℕ). block_answer (sheet_in c.args.sheet.now z) (history_in h c.args.ranks.now c.args.cuts.now c.args.cites.now) (values_of c.args.block c.args.list)) c.sizes.ensures c.usable_counts-heights.ensures
