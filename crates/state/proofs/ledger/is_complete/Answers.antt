use Prim.Native.Nat.{ℕ}
use borrow.Author.Rules.{rules}
use lib.Dec.{eqb}
use mathlib.Core.Path.{ap}
use Rattle.state.specs.State.{complete}
use Rattle.state.proofs.ledger.is_complete.Goals as goal

pub kind_due-requires : goal.kind_due-requires
kind_due-requires c = search rules

pub returns : goal.returns
unfolding complete
returns c = ap (λ (n : ℕ). eqb n 4) c.kind_due.ensures
