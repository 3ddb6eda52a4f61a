use Prim.Native.Nat.{ℕ}
use mathlib.Core.List.{List}
use mathlib.Core.Path.{◌∙◌, ◌≡◌, ap, refl, sym}
use native.Mathlib.Omega.{arith}
use Rattle.std.proofs.Common.{Err, rules}
use Rattle.frames.proofs.StepLaws.{run_ended, step_taken}
use Rattle.frames_load.proofs.LoadLaws.{load-short, load_step, with_adds}
use Rattle.frames_load.specs.Load.{body_stored}
use Rattle.frames_load.proofs.load.Goals as goal

pub returns-then-sheet-least : goal.returns-then-sheet-least
returns-then-sheet-least c = rw c.room_of-least.ensures (with_adds _ _ _ _ _ _ (load-short c.args.run.now c.args.at c.args.s c.args.sheet.now (omega (arith, c.room_of-least.ensures))))

pub returns-in_err-next : goal.returns-in_err-next
returns-in_err-next c =
    let e : c.from_residual.result ≡ Err c.in_err-next.field-0.0 = search rules in
    rw e (with_adds _ _ _ _ _ _ (load_step _ _ _ _ (omega (arith, c.room_of-least.ensures)) (sym c.next_frame.ensures ∙ c.in_err-next.was) refl))

pub returns-in_default : goal.returns-in_default
returns-in_default c =
    with_adds _ _ _ _ _ _ (load_step _ _ _ _ (omega (arith, c.room_of-least.ensures)) (run_ended _ _ _ (sym c.next_frame.ensures ∙ c.in_ok-next.was) c.in_default.not-Some) refl)

pub returns : goal.returns
returns c =
    with_adds _ _ _ _ _ _ (load_step _ _ _ _ (omega (arith, c.room_of-least.ensures)) (step_taken _ _ _ (sym c.next_frame.ensures ∙ c.in_ok-next.was) c.in-Some.is)
    (c.store.ensures ∙ ap (λ (x : List ℕ). body_stored c.args.s x c.args.sheet.now) c.body.ensures.0))
