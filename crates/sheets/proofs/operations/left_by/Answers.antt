use mathlib.Core.Path.{◌∙◌}
use Rattle.sheets.proofs.OperationCells.{operate_add, operate_subtract}
use Rattle.sheets.proofs.operations.left_by.Goals as goal

pub returns-in-3 : goal.returns-in-3
returns-in-3 c = λ op r ec ew ev. operate_add op r _ _ ew ev (ec ∙ c.in-3.is) _ c.checked_add.ensures

pub returns-in-4 : goal.returns-in-4
returns-in-4 c = λ op r ec ew ev. operate_subtract op r _ _ ew ev (ec ∙ c.in-4.is) _ c.checked_sub.ensures
