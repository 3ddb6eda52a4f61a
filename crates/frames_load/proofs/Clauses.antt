-- What each clause of the loading step's contract gives its caller. One law a clause: whoever loses a clause breaks its law.
-- Assumes nothing.
use Prim.Native.Nat.{ℕ}
use lib.ListN.{length}
use mathlib.Core.List.{List}
use mathlib.Core.Path.{◌≡◌}
use Rattle.frames.specs.Frame.{body_at}
use Rattle.frames.specs.Step.{header_loaded, kind_due, taken_step}
use Rattle.frames.specs.declared.step.Loading.{Loading}
use Rattle.frames.specs.Step.{Step}
use Rattle.frames_load.specs.Load.{Adds, LoadStep, Loads, load_answer, load_cells, sheet_so_far, with_balances, with_transaction}

module _ {run : List ℕ} {at : ℕ} {s : Loading} {before after : List ℕ} {answer : Step} (p : Loads run at s before after answer) where
  pub load-answers : answer ≡ load_answer run at s (length before)
  load-answers = p.answers

  pub load_leaves : after ≡ load_cells run at s before
  load_leaves = p.cells

module _ {s next : Loading} {b before after : List ℕ} (p : Adds s next b before after) where
  -- a header sets the sizes, and touches no cell
  pub header-adds : kind_due s ≡ 1 → (next ≡ header_loaded b) × (after ≡ before)
  header-adds = p.header

  pub balances_add : kind_due s ≡ 2 → sheet_so_far next after ≡ with_balances s b
  balances_add = p.balances

  pub transaction-adds : kind_due s ≡ 3 → sheet_so_far next after ≡ with_transaction (sheet_so_far s before) b
  transaction-adds = p.transaction

  -- a block is no part of the sheet
  pub block-adds : kind_due s ≡ 4 → (next ≡ s) × (after ≡ before)
  block-adds = p.block

module _ {run : List ℕ} {at : ℕ} {s : Loading} {before after : List ℕ} {answer : Step} (p : LoadStep run at s before after answer) where
  pub step-bytes : Loads run at s before after answer
  step-bytes = p.bytes

  pub step-adds : (next : Loading) (end : ℕ) → answer ≡ taken_step next end → Adds s next (body_at run at) before after
  step-adds = p.adds
