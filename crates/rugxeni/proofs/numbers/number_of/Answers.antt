use native.Mathlib.Omega.{arith}
use Rattle.rugxeni.proofs.NumberLaws.{number_late}
use Rattle.rugxeni.proofs.numbers.number_of.Goals as goal

pub returns-in_default : goal.returns-in_default
returns-in_default c = number_late c.args.ledger c.args.i _ (omega arith) c.count_at.ensures
