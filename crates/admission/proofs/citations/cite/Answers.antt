use Rattle.std.proofs.Common.{rules}
use lib.ListN.{get_or}
use mathlib.Core.Path.{◌≡◌}
use native.Mathlib.Omega.{arith}
use Rattle.admission.proofs.CitationLaws.{cite_past, cite_read}
use Rattle.admission.proofs.citations.cite.Goals as goal

pub returns-then-c-q : goal.returns-then-c-q
returns-then-c-q c = cite_past _ _ (omega arith)

pub returns : goal.returns
returns c =
    let e : c.unwrap_or.result ≡ get_or c.args.c.numbers c.args.q 65535 = search rules in
    cite_read _ _ (omega arith) e
