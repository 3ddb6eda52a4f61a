use Prim.Native.Nat.{◌-◌}
use lib.ListN.{length}
use Rattle.replay.proofs.PutLaws.{Turn}
use Rattle.state.specs.State.{kept}
use Rattle.settlement.specs.Tables.{buffers}
use Rattle.replay.proofs.blocks.put_blocks.Given as goal

abbrev pub invariant-loop-offset : goal.invariant-loop-offset
invariant-loop-offset l = Turn l.run l.at l.initial.state (kept l.sheet l.initial.ranks l.initial.cuts l.initial.cites l.initial.good) (buffers l.initial.counts l.initial.table l.initial.order) l.initial.out l.place l.offset l.state (kept l.sheet l.ranks l.cuts l.cites l.good) (buffers l.counts l.table l.order) l.out l.next

abbrev pub decreases-loop-offset : goal.decreases-loop-offset
decreases-loop-offset l = length l.run - l.offset
