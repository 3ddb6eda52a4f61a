use mathlib.Core.List.{List}
use Prim.Native.Nat.{ℕ}
use lib.ListN.{take}
use Rattle.ordering.specs.Table.{ref_in}
use Rattle.settlement.specs.Cells.{rows_in}
use Rattle.settlement.specs.Books.{Book, run_all}
use Rattle.settlement.specs.Inner.{Holds}
use Rattle.settlement.specs.View.{log_events}
use Rattle.sheets.specs.Sheet.{sheet_in}
use mathlib.Core.List.{[], map}
use Rattle.settlement.proofs.contracts.run_log.Given as goal

abbrev pub invariant-loop-b : goal.invariant-loop-b
invariant-loop-b l = (c₀ t₀ : List ℕ) (s : Book) → Holds l.z c₀ t₀ s l.initial.counts l.initial.table l.initial.cells → Holds l.z c₀ t₀
    (run_all (sheet_in l.sheet l.z) s (log_events (rows_in [] l.cites l.good) (map ref_in (take l.b-index l.order)))) l.counts l.table l.cells
