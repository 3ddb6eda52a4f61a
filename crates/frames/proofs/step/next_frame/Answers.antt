use Rattle.std.proofs.Common.{rules, ◌≡◌, Err}
use mathlib.Core.Path.{◌∙◌, sym}
use native.Mathlib.Omega.{arith}
use Rattle.frames.proofs.FrameLaws.{ended}
use Rattle.frames.proofs.StepLaws.{next_refused, next_taken, step-early, step_end, step-kind, step-refused}
use Rattle.frames.proofs.step.next_frame.Goals as goal

pub returns-in_err-kind : goal.returns-in_err-kind
returns-in_err-kind c =
    let e : c.from_residual.result ≡ Err c.in_err-kind.field-0.0 = search rules in
    e ∙ sym (step-refused c.args.run.now c.args.at c.args.s (sym c.frame.ensures ∙ c.in_err-kind.was))

pub returns-then-kind_due-eq4 : goal.returns-then-kind_due-eq4
returns-then-kind_due-eq4 c = sym (step_end _ _ _ (ended _ _ (sym c.frame.ensures ∙ c.in_ok-kind.was) c.in_default.not-Some) (omega arith))

pub returns-in_default : goal.returns-in_default
returns-in_default c = sym (step-early _ _ _ (ended _ _ (sym c.frame.ensures ∙ c.in_ok-kind.was) c.in_default.not-Some) (omega arith))

pub returns-then-kind-kind_due : goal.returns-then-kind-kind_due
returns-then-kind-kind_due c = sym (step-kind _ _ _ (sym c.frame.ensures ∙ c.in_ok-kind.was) c.in-Some.is (omega arith))

pub returns-in_err-judge : goal.returns-in_err-judge
returns-in_err-judge c =
    let e : c.from_residual-in_err-judge.result ≡ Err c.in_err-judge.field-0.0 = search rules in
    e ∙ sym (next_refused _ _ _ (sym c.frame.ensures ∙ c.in_ok-kind.was) c.in-Some.is (omega arith) c.body-b.ensures.0 (sym c.judge.ensures ∙ c.in_err-judge.was))

pub returns : goal.returns
returns c =
    sym (next_taken _ _ _ (sym c.frame.ensures ∙ c.in_ok-kind.was) c.in-Some.is (omega arith) c.body-b.ensures.0 (sym c.judge.ensures ∙ c.in_ok-judge.was) c.loading_after.ensures)
