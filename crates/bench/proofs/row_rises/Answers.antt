use borrow.Author.Rules.{rules}
use mathlib.Core.Bool.{false, true}
use mathlib.Core.Path.{◌≡◌, refl}
use native.Mathlib.Omega.{arith}
use Rattle.bench.proofs.Ready.{all_below}
use Rattle.bench.specs.Bench.{rises, rises_at}
use Rattle.std.proofs.lemmas.Iterator.{YieldsList-from_range, cases_from_all}
use Rattle.bench.proofs.row_rises.Goals as goal

pub returns : goal.returns
unfolding rises
returns c =
    let b = c.args.b in
    let f = rises_at c.args.ranks.now b c.args.j in
    all_below b f _ (cases_from_all _ _ _ (λ n. f n ≡ true) (λ n. f n ≡ false) c.all.ensures.ran
    (YieldsList-from_range 0 b b refl (omega arith)) (λ n q k. search rules) (λ n q k. search rules))
