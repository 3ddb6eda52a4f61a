use Rattle.std.proofs.Common.{rules, ℕ}
use mathlib.Core.Path.{◌≡◌, ap}
use native.Mathlib.Omega.{arith}
use lib.ListN.{length, length-append, length-drop, length-take, take}
use Rattle.admission.proofs.CitationLaws.{list_copied}
use Rattle.admission.proofs.citations.citations_of.Goals as goal

pub returns : goal.returns
returns c =
    let e : c.copy_from_slice.new.self ≡ take c.min-n.result c.args.list.now = search rules in
    list_copied _ _ _ _ e (omega (arith, c.min-n.ensures)) (omega (arith, ap length e, length-take c.min-n.result c.args.list.now, length-append {A = ℕ}, length-drop {A = ℕ}))
