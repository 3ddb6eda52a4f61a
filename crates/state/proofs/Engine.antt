-- What the cells stand for, as the engine of the proofs about the plain ledger.
-- Assumes nothing.
use Prim.Native.Nat.{◌*◌, ◌≤◌, ℕ}
use lib.ListN.{length}
use mathlib.Core.Path.{◌≡◌}
use Rattle.state.specs.Cells.{Cells, outcomes_in, past_in}
use Rattle.plain.proofs.Engine.{Engine}

abbrev pub engine_in : Cells → Engine
engine_in C = record { past = past_in C; flag = outcomes_in C }

-- the slices are as long as m instances need
pub record Roomy (m : ℕ) (C : Cells) : Type 0 where
  pub heights : length C.heights ≡ 16
  pub ranks : 128 * m ≤ length C.ranks
  pub cuts : 2048 * m ≤ length C.cuts
  pub cites : 4096 * m ≤ length C.cites
  pub good : 4096 * m ≤ length C.good
