use borrow.Author.Tests.{lt-leb}
use mathlib.Core.Path.{◌∙◌}
use native.Mathlib.Omega.{arith}
use Rattle.admission.proofs.EntryLaws.{set_used, set-unused}
use Rattle.admission.proofs.entries.is_set.Goals as goal

pub returns-then-m-e : goal.returns-then-m-e
returns-then-m-e c = set-unused _ c.args.cut _ c.if-m-e.true c.count_at.ensures

pub returns-else-m-e : goal.returns-else-m-e
returns-else-m-e c = lt-leb _ _ (omega arith) ∙ set_used _ c.args.cut _ (omega arith)
