-- No more is read than the buffer has. The measure is the number of bytes that have room.
use Rattle.std.proofs.Common.{◌≤◌, length, ◌≡◌, ◌-◌}
use Rattle.stored_runs.proofs.input.read_full.Given as goal

abbrev pub invariant-loop-done : goal.invariant-loop-done
invariant-loop-done g l = (l.done ≤ length l.space) × (length l.space ≡ length l.fn.space)

abbrev pub decreases-loop-done : goal.decreases-loop-done
decreases-loop-done g l = length l.space - l.done
