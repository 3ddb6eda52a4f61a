use mathlib.Core.Path.{ap}
use native.Mathlib.Omega.{arith}
use Prim.Native.Nat.{◌*◌, ℕ}
use Rattle.settlement.proofs.CountCells.{filled_so}
use Rattle.settlement.proofs.SettleCells.{settled_so}
use Rattle.settlement.proofs.settle.settle.Goals as goal

pub settle_contracts-registers-requires : goal.settle_contracts-registers-requires
settle_contracts-registers-requires c = (c.requires.0, c.requires.1, c.requires.2, c.requires.3, c.requires.4, c.requires.5)

pub returns : goal.returns
returns c = settled_so _ _ _ _ _ c.args.view c.requires.4 c.requires.0.short _ _ _ _ _ _ c.requires.1 c.requires.2 c.settle_contracts-registers.ensures.0 _ _ _ _
    (filled_so _ _ _ _ _ (ap (λ (n : ℕ). 2 * n) c.from.ensures) (omega (arith, c.settle_contracts-registers.ensures.0.counted.size, c.requires.1))
    (c.fill.ensures.after (λ y e. e))) c.count_view.ensures c.pay_all.ensures c.settle_contracts-registers.ensures.1
