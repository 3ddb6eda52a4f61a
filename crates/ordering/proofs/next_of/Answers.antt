use Prim.Native.Nat.{ℕ}
use mathlib.Core.Path.{◌∙◌, ap}
use native.Mathlib.Omega.{arith}
use Rattle.ordering.proofs.Cases.{next_pair_none, next_pair_some}
use Rattle.ordering.specs.Pairs.{pair_of}
use Rattle.ordering.specs.Table.{count_in, rank_in}
use Rattle.ordering.proofs.next_of.Goals as goal

pub returns-then-n-count_in : goal.returns-then-n-count_in
returns-then-n-count_in c =
    let n = c.count_in-n.ensures in
    let a = c.args in
    let r = c.rank_at.ensures ∙ ap (rank_in a.ranks.now a.j) n in
    c.pair_of.ensures ∙ ap (λ (r : ℕ). pair_of r a.j) r
    ∙ next_pair_some (rank_in a.ranks.now) (count_in a.full.now) a.stop (count_in a.cursors.now) a.j (omega (arith, n, c.count_in.ensures, c.if-n-count_in.true))

pub returns-else-n-count_in : goal.returns-else-n-count_in
returns-else-n-count_in c =
    let a = c.args in
    next_pair_none (rank_in a.ranks.now) (count_in a.full.now) a.stop (count_in a.cursors.now) a.j
    (omega (arith, c.count_in-n.ensures, c.count_in.ensures, c.if-n-count_in.false))
