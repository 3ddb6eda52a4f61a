use Prim.Native.Nat.{ℕ}
use borrow.Author.Rules.{rules}
use lib.ListN.{length}
use mathlib.Core.List.{map}
use mathlib.Core.Path.{◌≡◌, subst, sym}
use Rattle.ordering.proofs.Usable.{ordered}
use Rattle.ordering.specs.Order.{global_log}
use Rattle.ordering.specs.Table.{Ordered, block_id, count_in, rank_in}
use Rattle.sums.specs.Seq.{fill}
use Rattle.ordering.proofs.view_log.Goals as goal

-- src/lib.rt:168:9

pub usable_counts-counts-requires : goal.usable_counts-counts-requires
usable_counts-counts-requires c = search rules

-- src/lib.rt:169:5

pub global_log-requires : goal.global_log-requires
global_log-requires c =
    let a = c.args in
    subst (λ (F : ℕ → ℕ). Ordered a.m (rank_in a.ranks.now) F) (sym c.usable_counts-counts.ensures) (ordered a.m (rank_in a.ranks.now) (count_in a.full))

-- src/lib.rt:165:1

pub shape_of-out : goal.shape_of-out
shape_of-out c = search rules

-- src/lib.rt:165:1

pub returns : goal.returns
returns c =
    let a = c.args in
    subst (λ (F : ℕ → ℕ). (c.global_log.result ≡ length (global_log a.m (rank_in a.ranks.now) F)) × (c.global_log.new.out ≡ fill (map block_id (global_log a.m (rank_in a.ranks.now) F)) a.out.now))
    c.usable_counts-counts.ensures c.global_log.ensures
