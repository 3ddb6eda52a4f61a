-- No more is read than the buffer has.
use Rattle.std.proofs.Common.{◌≤◌, length, ◌≡◌}
use Rattle.readrun.proofs.input.read_run.Given as goal

abbrev pub invariant-loop : goal.invariant-loop
invariant-loop g l = (l.n ≤ length l.fn.space) × (length l.space ≡ length l.fn.space)
