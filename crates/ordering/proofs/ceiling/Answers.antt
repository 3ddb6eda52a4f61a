use Prim.Native.Nat.{◌+◌, ◌-◌, ℕ}
use mathlib.Core.Path.{◌∙◌, ap, sym}
use native.Mathlib.Omega.{arith}
use Rattle.ordering.proofs.Laws.{last_none, last_some}
use Rattle.ordering.specs.declared.pair.Pair.{Pair}
use Rattle.ordering.specs.Pairs.{pair_of}
use Rattle.ordering.specs.Table.{count_in, rank_in}
use Rattle.ordering.proofs.ceiling.Goals as goal

pub returns-then-n-eq0 : goal.returns-then-n-eq0
returns-then-n-eq0 c =
    let a = c.args in
    let e = last_none (rank_in a.ranks.now a.j) (count_in a.full a.j) (omega (arith, c.count_at-n.ensures, c.if-n-eq0.true)) in
    (c.pair_above.ensures ∙ ap (λ (r : ℕ). pair_of (r + 1) a.j) (sym e), omega (arith, ap (λ (p : Pair). p.rank) c.pair_above.ensures))

pub returns : goal.returns
returns c =
    let a = c.args in
    let R = rank_in a.ranks.now a.j in
    let e = last_some R (count_in a.full a.j) (omega (arith, c.count_at-n.ensures, c.if-n-eq0.false)) in
    let r = c.rank_at.ensures ∙ ap (λ (x : ℕ). R (x - 1)) c.count_at-n.ensures ∙ sym e in
    (c.pair_above-2.ensures ∙ ap (λ (r : ℕ). pair_of (r + 1) a.j) r, omega (arith, ap (λ (p : Pair). p.rank) c.pair_above-2.ensures))
