-- Views, and what a view looks at (document 01, "View").
-- Each instance has a row of citation places, 32 a block: place p is citation p % 32 of block p / 32. A place past a block's count holds 65535, which is no transaction.
-- Assumes nothing.
use Rattle.std.specs.Prelude.{◌*◌, ◌+◌, ◌/◌, ℕ, Bool, List, [], ◌++◌, ◌∷◌}
use Rattle.ordering.specs.Order.{Ref, global_log}
use Rattle.sheets.specs.Sheet.{Sheet}
use Rattle.sums.specs.Seq.{tabulate}
use Rattle.sums.specs.Sum.{sum_to}

-- how many places of each instance's row the view holds; its whole blocks are v j / 32
abbrev pub View : Type 0
View = ℕ → ℕ

abbrev pub no_cite : ℕ
no_cite = 65535

-- the rank of block n of instance i, the transaction cited at place p of instance j, and whether that part is good
pub record Rows : Type 0 where
  pub rank : ℕ → ℕ → ℕ
  pub cell : ℕ → ℕ → ℕ
  pub good : ℕ → ℕ → Bool

-- a citation: its transaction, and whether the part is good
pub record Event : Type 0 where
  pub tx : ℕ
  pub good : Bool

unfoldable pub event_at : Rows → ℕ → ℕ → Event
event_at R j p = record { tx = R.cell j p; good = R.good j p }

-- a weight of each citation, summed over the view
unfoldable pub view_sum : Sheet → Rows → View → (Event → ℕ) → ℕ
view_sum S R v w = sum_to S.m (λ j. sum_to (v j) (λ p. w (event_at R j p)))

-- the global log of the view: its unfinished block counts neither for the bar nor for the log
unfoldable pub view_log : Sheet → Rows → View → List Ref
view_log S R v = global_log S.m R.rank (λ j. v j / 32)

-- the citations of a block, and of the blocks of a log, in order
unfoldable pub block_events : Rows → Ref → List Event
block_events R b = tabulate 32 (λ q. event_at R b.instance (b.index * 32 + q))

unfoldable pub log_events : Rows → List Ref → List Event
log_events R [] = []
log_events R (b ∷ l) = block_events R b ++ log_events R l
