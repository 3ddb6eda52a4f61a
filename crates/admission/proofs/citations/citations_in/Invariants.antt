use mathlib.Core.Path.{◌≡◌}
use Prim.Native.Nat.{◌≤◌, ◌-◌}
use lib.ListN.{length, take}
use Rattle.sums.specs.Seq.{tabulate}
use Rattle.admission.proofs.CitationLaws.{cite_of}
use Rattle.admission.proofs.citations.citations_in.Given as goal

abbrev pub invariant-loop-k : goal.invariant-loop-k
invariant-loop-k l = (l.k ≤ l.count) × (l.count ≤ 32) × (length l.numbers ≡ 32) × (take l.k l.numbers ≡ tabulate l.k (cite_of l.body l.m))

abbrev pub decreases-loop-k : goal.decreases-loop-k
decreases-loop-k l = l.count - l.k
