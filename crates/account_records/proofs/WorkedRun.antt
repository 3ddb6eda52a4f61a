-- Document 01's run gives the records that it prints.
-- Assumes nothing.
use mathlib.Core.Path.{◌∙◌, ap, refl}
use Rattle.account_records.specs.Records.{joined, records_of}
use Rattle.account_records.specs.Worked.{Worked}
use Rattle.plain.proofs.Edges.{edges}

pub worked : Worked
unfolding joined
worked = ap records_of edges.0.read ∙ refl
