use Prim.Native.Nat.{◌-◌, ◌≤◌}
use lib.ListN.{length, take}
use mathlib.Core.Path.{◌≡◌}
use Rattle.frames.specs.Block.{cut_entry}
use Rattle.sums.specs.Seq.{tabulate}
use Rattle.frames.proofs.block.cut_of.Given as goal

abbrev pub invariant-loop-j : goal.invariant-loop-j
invariant-loop-j l = (l.j ≤ 16) × (length l.cut ≡ 16) × (take l.j l.cut ≡ tabulate l.j (cut_entry l.body l.m))

abbrev pub decreases-loop-j : goal.decreases-loop-j
decreases-loop-j l = 16 - l.j
