use lib.Dec.{eqb}
use Rattle.transactions.proofs.CheckLaws.{amounts_ext, sides_same}
use Rattle.transactions.specs.Check.{amounts, balanced}
use Rattle.transactions.proofs.check.sums_agree.Goals as goal

pub returns : goal.returns
unfolding balanced
returns c =
    let d = simp (c.byte_at.ensures, c.debits.ensures) at c.total.ensures in
    let e = simp (c.byte_at-2.ensures, c.credits.ensures) at c.total-2.ensures in
    rw (sides_same c.args.body.now eqb amounts amounts_ext) (simp (d, e))
