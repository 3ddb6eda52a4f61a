use mathlib.Core.Path.{◌∙◌, sym}
use Rattle.refusals.proofs.CheckedLaws.{ok_is}
use Rattle.state.proofs.LoadSheet.{sheet-step, sheet-whole}
use Rattle.state.proofs.load.load_sheet.Goals as goal

pub returns-then-is_complete : goal.returns-then-is_complete
returns-then-is_complete c = sheet-whole c.args.ledger c.args.run.now c.args.at c.args.sheet.now (sym c.is_complete.ensures ∙ c.if-is_complete.true)

pub returns-in-Ok-Some : goal.returns-in-Ok-Some
returns-in-Ok-Some c = sheet-step _ _ _ _ _ _ _ (sym c.is_complete.ensures ∙ c.if-is_complete.false) c.load.ensures (ok_is c.in-Ok-Some.is c.in-Ok-Some.field-0-is)

pub returns-in-Err : goal.returns-in-Err
returns-in-Err c = sheet-step _ _ _ _ _ _ _ (sym c.is_complete.ensures ∙ c.if-is_complete.false) c.load.ensures c.in-Err.is

pub returns-in-Ok-None : goal.returns-in-Ok-None
returns-in-Ok-None c = sheet-step _ _ _ _ _ _ _ (sym c.is_complete.ensures ∙ c.if-is_complete.false) c.load.ensures (ok_is c.in-Ok-None.is c.in-Ok-None.field-0-is)
