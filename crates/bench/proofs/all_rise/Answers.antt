use borrow.Author.Rules.{rules}
use mathlib.Core.Bool.{false, true}
use mathlib.Core.Path.{◌≡◌, refl}
use native.Mathlib.Omega.{arith}
use Rattle.bench.proofs.Ready.{all_below}
use Rattle.bench.specs.Bench.{rises}
use Rattle.std.proofs.lemmas.Iterator.{YieldsList-from_range, cases_from_all}
use Rattle.bench.proofs.all_rise.Goals as goal

pub returns : goal.returns
returns c =
    let m = c.args.m in
    let f = rises c.args.ranks.now c.args.b in
    all_below m f _ (cases_from_all _ _ _ (λ j. f j ≡ true) (λ j. f j ≡ false) c.all.ensures.ran
    (YieldsList-from_range 0 m m refl (omega arith)) (λ j q k. search rules) (λ j q k. search rules))
