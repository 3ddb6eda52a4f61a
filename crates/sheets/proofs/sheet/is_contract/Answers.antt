use Rattle.sheets.proofs.SheetCells.{contract_in}
use Rattle.sheets.proofs.sheet.is_contract.Goals as goal

pub returns : goal.returns
returns c = contract_in _ _ _ _ c.kind_of.ensures
