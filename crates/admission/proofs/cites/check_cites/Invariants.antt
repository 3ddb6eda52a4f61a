use mathlib.Core.Path.{◌≡◌}
use Prim.Native.Nat.{◌≤◌, ◌-◌}
use lib.ListN.{length}
use Rattle.plain.specs.Answer.{first_to, accepted}
use Rattle.plain.specs.Plain.{cite_answer}
use Rattle.admission.specs.Replies.{cites_only}
use Rattle.admission.specs.Citing.{values_of, cites_in}
use Rattle.sheets.specs.Sheet.{sheet_in}
use Rattle.admission.proofs.cites.check_cites.Given as goal

abbrev pub invariant-loop-q : goal.invariant-loop-q
invariant-loop-q l = (l.q ≤ l.n) × (l.n ≡ length (cites_in l.list)) × (first_to l.q (cite_answer (sheet_in l.sheet l.z) (cites_only l.heights l.cites) (values_of l.block l.list)) ≡ accepted)

abbrev pub decreases-loop-q : goal.decreases-loop-q
decreases-loop-q l = l.n - l.q
