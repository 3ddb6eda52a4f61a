-- Of the entries that were read no more than all agree, and each is one of the loop's.
use Rattle.std.proofs.Common.{◌≤◌}
use Rattle.stored_runs.proofs.tally.Given as goal

abbrev pub invariant-loop : goal.invariant-loop
invariant-loop g l = (l.agree ≤ l.runs) × (l.runs ≤ l.counter)
