use native.Mathlib.Omega.{arith}
use Rattle.admission.proofs.CitationLaws.{size_is}
use Rattle.admission.proofs.citations.size.Goals as goal

pub returns : goal.returns
returns c = omega (arith, size_is c.args.c, c.min.ensures, c.well_formed.0.1.1.1.0.1.0.1)
