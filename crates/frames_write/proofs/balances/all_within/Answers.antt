use borrow.Author.Tests.{tests}
use Rattle.std.proofs.Common.{rules, ◌<◌, ◌≤◌}
use Rattle.std.proofs.lemmas.Iterator.{YieldsList-from_slice, cases_from_all}
use Rattle.frames.specs.Balances.{balances_ok}
use Rattle.frames_write.proofs.TestLaws.{all_at_most}
use Rattle.frames_write.proofs.balances.all_within.Goals as goal

pub returns : goal.returns
unfolding balances_ok
returns c =
    all_at_most 1099511627776 c.args.list.now _ (cases_from_all _ _ _ (λ x. x ≤ 1099511627776) (λ x. 1099511627776 < x) c.all.ensures.ran
    (YieldsList-from_slice c.args.list.now cc) (λ x q k. search (rules, tests)) (λ x q k. search (rules, tests)))
