use Prim.Native.Nat.{ℕ}
use mathlib.Core.Path.{◌∙◌, ◌≡◌, ap, sym}
use native.Mathlib.Omega.{arith}
use Rattle.ordering.proofs.Laws.{last_next, last_none}
use Rattle.ordering.proofs.Usable.{climb_end, climb-more, climb_zero}
use Rattle.ordering.specs.Table.{climb, rank_in}
use Rattle.ordering.proofs.climbing.Goals as goal

pub loop-n-init : goal.loop-n-init
loop-n-init c = (omega arith, sym (last_none (rank_in c.args.ranks.now c.args.instance) 0 (omega arith)), climb_zero (rank_in c.args.ranks.now c.args.instance))

pub returns-then-now-last : goal.returns-then-now-last
returns-then-now-last c =
    let a = c.args in
    climb_end (rank_in a.ranks.now a.instance) c.loop-n.n a.count c.loop-n.invariant.2 (omega (arith, c.loop-n.invariant.1, c.if-now-last.true, c.rank_at-r.ensures)) c.loop-n-test.true

pub loop-n-preserved : goal.loop-n-preserved
loop-n-preserved c =
    let a = c.args in
    let f : ℕ → ℕ = rank_in a.ranks.now a.instance in
    let r : c.rank_at-r.result.0 ≡ f c.loop-n.n = c.rank_at-r.ensures in
    (omega arith, r ∙ sym (last_next f c.loop-n.n), climb-more f c.loop-n.n c.loop-n.invariant.2 (omega (arith, r, c.loop-n.invariant.1, c.if-now-last.false)))

pub returns : goal.returns
returns c =
    let a = c.args in
    let e : c.loop-n.n ≡ a.count = omega arith in
    sym e ∙ sym c.loop-n.invariant.2 ∙ ap (climb (rank_in a.ranks.now a.instance)) e
