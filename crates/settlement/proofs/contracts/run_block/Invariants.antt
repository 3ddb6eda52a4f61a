use mathlib.Core.Path.{◌≡◌}
use mathlib.Core.List.{List}
use Prim.Native.Nat.{ℕ, ◌+◌, ◌≤◌, ◌-◌}
use lib.ListN.{length}
use Rattle.settlement.specs.Cells.{rows_in}
use Rattle.settlement.specs.Books.{Book, run_all}
use Rattle.settlement.specs.Inner.{Holds}
use Rattle.settlement.specs.View.{event_at}
use Rattle.sheets.specs.Sheet.{sheet_in}
use Rattle.sums.specs.Seq.{tabulate}
use mathlib.Core.List.{[]}
use Rattle.settlement.proofs.contracts.run_block.Given as goal

abbrev pub invariant-loop-q : goal.invariant-loop-q
invariant-loop-q l = (l.q ≤ 32) × (length l.counts ≡ length l.initial.counts) × (length l.table ≡ length l.initial.table) ×
    ((c₀ t₀ : List ℕ) (s : Book) → Holds l.z c₀ t₀ s l.initial.counts l.initial.table l.initial.cells → Holds l.z c₀ t₀
    (run_all (sheet_in l.sheet l.z) s (tabulate l.q (λ p. event_at (rows_in [] l.cites l.good) l.j (l.from + p)))) l.counts l.table l.cells)

abbrev pub decreases-loop-q : goal.decreases-loop-q
decreases-loop-q l = 32 - l.q
