-- Beside home's laws this is all that looks inside `home`.
use mathlib.Core.Path.{refl}
use Rattle.sheets.proofs.HomeLaws.{home-none, home_some}
use Rattle.sheets.proofs.parts.home_of.Goals as goal

pub returns-then-m-eq0 : goal.returns-then-m-eq0
returns-then-m-eq0 c = home-none _ _ _ c.if-m-eq0.true

pub returns-else-m-eq0 : goal.returns-else-m-eq0
returns-else-m-eq0 c = home_some _ _ _ _ refl
