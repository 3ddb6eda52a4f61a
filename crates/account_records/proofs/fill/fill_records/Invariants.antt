use lib.ListN.{take}
use mathlib.Core.Path.{◌≡◌}
use Rattle.account_records.specs.Records.{joined, over}
use Rattle.account_records.proofs.fill.fill_records.Given as goal

abbrev pub invariant-loop-k : goal.invariant-loop-k
invariant-loop-k l = l.record-items ≡ over (take l.k (joined l.free l.held)) l.initial.record-items
