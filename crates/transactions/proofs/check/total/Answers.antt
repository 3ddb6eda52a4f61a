use borrow.Author.Rules.{rules}
use mathlib.Core.Path.{◌≡◌, sym}
use native.Mathlib.Omega.{arith}
use Rattle.sums.proofs.SumLaws.{sum_next, sum_zero}
use Rattle.transactions.specs.Body.{entry_in}
use Rattle.transactions.proofs.check.total.Goals as goal

pub loop-k-init : goal.loop-k-init
loop-k-init c = (search rules, sym (sum_zero _), search rules)

pub loop-k-preserved : goal.loop-k-preserved
loop-k-preserved c =
    let e = sum_next c.loop-k.k (λ k. (entry_in c.args.list.now k).amount) in
    (omega arith, omega arith, omega arith)

pub returns : goal.returns
returns c =
    let q : c.args.n ≡ c.loop-k.k = omega arith in
    rw q c.loop-k.invariant.1
