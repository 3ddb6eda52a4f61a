use mathlib.Core.Path.{ap, refl, sym, subst}
use native.Mathlib.Omega.{arith}
use Rattle.ordering.specs.Table.{Ordered, rank_in}
use Prim.Native.Nat.{◌*◌, ◌≤◌, ℕ}
use lib.ListN.{length, length-take}
use Rattle.settlement.proofs.CountCells.{filled_so}
use Rattle.settlement.proofs.SettleCells.{contracts_hold, fresh_holds, log_fits, log-front, log-logged}
use Rattle.settlement.proofs.contracts.settle_contracts.Goals as goal

pub global_log-n-requires : goal.global_log-n-requires
global_log-n-requires c = (subst (Ordered c.args.z.m (rank_in c.args.ranks.now)) (sym c.whole.ensures) c.requires.0)

pub slice_bounds-run_log-end : goal.slice_bounds-run_log-end
slice_bounds-run_log-end c =
    let o = subst (Ordered c.args.z.m (rank_in c.args.ranks.now)) (sym c.whole.ensures) c.requires.0 in
    log_fits _ _ _ c.requires.4 o _ _ (omega (arith, c.requires.3)) c.global_log-n.ensures.0

pub slice_bounds-run_log-end-2 : goal.slice_bounds-run_log-end-2
slice_bounds-run_log-end-2 c =
    let o = subst (Ordered c.args.z.m (rank_in c.args.ranks.now)) (sym c.whole.ensures) c.requires.0 in
    let fits : c.global_log-n.result ≤ length c.global_log-n.new.out = log_fits _ _ _ c.requires.4 o _ _ (omega (arith, c.requires.3)) c.global_log-n.ensures.0 in
    omega (arith, length-take c.global_log-n.result c.global_log-n.new.out)

pub returns : goal.returns
returns c = (
  contracts_hold _ _ c.args.ranks.now c.args.cites.now c.args.good.now c.args.view c.whole.result c.whole.ensures _ _ _ _ _ _
      (log-front _ _ _ c.requires.4 (subst (Ordered c.args.z.m (rank_in c.args.ranks.now)) (sym c.whole.ensures) c.requires.0) _ _ c.requires.3 c.global_log-n.ensures.0 _ _ refl
      c.global_log-n.ensures.1) (c.run_log.ensures _ _ _ (fresh_holds _ _ _ _ c.requires.5 c.requires.1 c.requires.2 _ _
      (filled_so _ _ _ _ _ (ap (λ (n : ℕ). 2 * n) c.from-t.ensures) c.requires.1 (c.fill.ensures.after (λ y e. e)))
      (filled_so _ _ _ _ _ c.from-t.ensures c.requires.2 (c.fill-2.ensures.after (λ y e. e))))),
  log-logged _ _ c.args.ranks.now c.args.cites.now c.args.good.now c.args.view
      c.whole.result c.whole.ensures _ _ c.global_log-n.ensures.1,
)
