use native.Mathlib.Omega.{arith}
use Rattle.admission.proofs.CiteLaws.{none-there, no_part, cited-before, cited-above, cited-not}
use mathlib.Core.Bool.{not}
use mathlib.Core.Path.{ap}
use Rattle.admission.proofs.cites.check_cite.Goals as goal

pub returns-then-z-x : goal.returns-then-z-x
returns-then-z-x c = none-there c.args.sheet.now c.args.z c.args.heights c.args.cites.now c.args.block c.args.list c.args.q c.cite-x.ensures (omega arith)

pub returns-then-not-has_part : goal.returns-then-not-has_part
returns-then-not-has_part c = no_part c.args.sheet.now c.args.z c.args.heights c.args.cites.now c.args.block c.args.list c.args.q c.cite-x.ensures (omega arith) c.has_part.ensures (ap not c.if-not-has_part.true)

pub returns-then-cited_by : goal.returns-then-cited_by
returns-then-cited_by c = cited-before c.args.sheet.now c.args.z c.args.heights c.args.cites.now c.args.block c.args.list c.args.q c.cite-x.ensures (omega arith) c.has_part.ensures (ap not c.if-not-has_part.false) c.count_at-h.ensures c.cited_by.ensures c.if-cited_by.true

pub returns-then-cited_above : goal.returns-then-cited_above
returns-then-cited_above c = cited-above c.args.sheet.now c.args.z c.args.heights c.args.cites.now c.args.block c.args.list c.args.q c.cite-x.ensures (omega arith) c.has_part.ensures (ap not c.if-not-has_part.false) c.count_at-h.ensures c.cited_by.ensures c.if-cited_by.false c.cited_above.ensures c.if-cited_above.true

pub returns : goal.returns
returns c = cited-not c.args.sheet.now c.args.z c.args.heights c.args.cites.now c.args.block c.args.list c.args.q c.cite-x.ensures (omega arith) c.has_part.ensures (ap not c.if-not-has_part.false) c.count_at-h.ensures c.cited_by.ensures c.if-cited_by.false c.cited_above.ensures c.if-cited_above.false
