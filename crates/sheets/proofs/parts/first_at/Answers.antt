use Rattle.sheets.proofs.PartCells.{first_counted}
use Rattle.sheets.proofs.parts.first_at.Goals as goal

pub returns : goal.returns
returns c = first_counted _ _ _ _ _ _ c.account_at.ensures c.home_of-h.ensures c.any_home.ensures _ c.from.ensures
