use mathlib.Core.Path.{◌≡◌}
use Prim.Native.Nat.{◌-◌}
use lib.ListN.{length}
use Rattle.replay.proofs.OpenLaws.{Comes}
use Rattle.replay.proofs.opening.open_run.Given as goal

abbrev pub invariant-loop-sheet : goal.invariant-loop-sheet
invariant-loop-sheet l = Comes l.run l.initial.sheet l.at l.ledger l.sheet × (length l.sheet ≡ length l.initial.sheet)

abbrev pub decreases-loop-sheet : goal.decreases-loop-sheet
decreases-loop-sheet l = length l.run - l.at
