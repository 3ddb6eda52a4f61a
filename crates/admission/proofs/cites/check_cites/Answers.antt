use Rattle.std.proofs.Common.{Err, rules}
use mathlib.Core.Path.{◌≡◌, refl}
use native.Mathlib.Omega.{arith}
use Rattle.plain.specs.Answer.{first_to}
use Rattle.plain.proofs.AnswerLaws.{first_to_zero}
use Rattle.admission.proofs.SearchLaws.{at_end, passed_at, turned_at}
use Rattle.admission.proofs.cites.check_cites.Goals as goal

pub loop-q-init : goal.loop-q-init
loop-q-init c = (omega arith, c.size-n.ensures, first_to_zero _)

pub returns-in_err-check_cite : goal.returns-in_err-check_cite
returns-in_err-check_cite c =
    let e : c.from_residual.result ≡ Err c.in_err-check_cite.field-0.0 = search rules in
    rw e (turned_at c.check_cite.ensures _ _ _ (omega arith) c.loop-q.invariant.2 refl c.in_err-check_cite.was)

pub loop-q-preserved : goal.loop-q-preserved
loop-q-preserved c = (omega arith, c.loop-q.invariant.1, passed_at c.check_cite.ensures _ _ c.loop-q.invariant.2 refl c.in_ok-check_cite.was)

pub returns : goal.returns
returns c = at_end first_to _ _ _ (omega arith) (omega arith) c.loop-q.invariant.2
