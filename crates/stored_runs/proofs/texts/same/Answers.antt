use Rattle.std.proofs.Common.{rules}
use Rattle.stored_runs.proofs.texts.same.Goals as goal

pub returns : goal.returns
returns c = search rules
