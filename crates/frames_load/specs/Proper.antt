-- The states that loading reaches, how far their sheet is proper, and that a complete one is.
-- Assumes nothing.
use Rattle.std.specs.Prelude.{◌<◌, ◌≤◌, ℕ, get_or, length, true, List, ◌≡◌, Ok}
use Rattle.frames.specs.Balances.{balances_ok}
use Rattle.frames.specs.Header.{header_ok}
use Rattle.sheets.specs.Sheet.{Sheet}
use Rattle.frames.specs.Step.{kind_due, taken_step}
use Rattle.frames_load.specs.Load.{Loads}
use Rattle.sheets.specs.Proper.{is_proper}
use Rattle.transactions.specs.Check.{judge_transaction}
use Rattle.transactions.specs.Content.{no_transaction}
use Rattle.frames.specs.declared.step.Loading.{Loading}

-- a sheet that is proper as far as it was loaded: the header once it was taken, the rest once the balances were
pub record ProperSoFar (s : Loading) (S : Sheet) : Type 0 where
  pub header : 1 ≤ s.stage → header_ok s.m s.a s.g s.t ≡ true
  pub count : 2 ≤ s.stage → s.loaded ≤ s.t
  pub balances : 2 ≤ s.stage → balances_ok S.balances ≡ true
  pub transactions : 2 ≤ s.stage → (x : ℕ) → x < s.loaded → judge_transaction 0 s.a s.g (get_or S.transactions x no_transaction) ≡ Ok tt

-- a state of loading, and the cells, that calls of `load` reach from a fresh state, whatever the cells held then. A call that takes no frame leaves both as they were
pub data Loaded : Loading → List ℕ → Type 0 where
  fresh : {s : Loading} {cells : List ℕ} → s.stage ≡ 0 → Loaded s cells
  more : {s next : Loading} {before after : List ℕ} (run : List ℕ) (at end : ℕ) → Loaded s before → Loads run at s before after (taken_step next end) → Loaded next after

-- the sheet is complete: blocks are due
abbrev pub IsComplete : Loading → Type 0
IsComplete s = kind_due s ≡ 4

-- what holds of a sheet that loading completed
pub record CompleteSheet (s : Loading) (S : Sheet) : Type 0 where
  pub proper : is_proper S ≡ true
  pub instances : S.m ≡ s.m
  pub accounts : S.a ≡ s.a
  pub registers : S.g ≡ s.g
  pub count : length S.transactions ≡ s.t
