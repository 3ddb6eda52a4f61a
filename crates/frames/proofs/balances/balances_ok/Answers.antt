use Prim.Native.Nat.{◌*◌}
use borrow.Author.Rules.{rules}
use borrow.Author.Tests.{le-leb, lt-leb}
use mathlib.Core.Path.{sym}
use native.Mathlib.Omega.{arith}
use Rattle.fields.specs.Number.{le}
use Rattle.frames.proofs.BalancesLaws.{fits_same}
use Rattle.sums.proofs.LoopLaws.{all_to_done, all_to-more, all_to-none, all_to_not}
use Rattle.frames.proofs.balances.balances_ok.Goals as goal

pub loop-k-init : goal.loop-k-init
loop-k-init c = (search rules, all_to-none _)

pub returns-then-u64_at-gt1099511627776 : goal.returns-then-u64_at-gt1099511627776
returns-then-u64_at-gt1099511627776 c = rw (fits_same c.args.a c.args.b.now) (sym (all_to_not _ c.loop-k.k _ (omega arith) (lt-leb (le 8 c.args.b.now (8 * c.loop-k.k)) 1099511627776 (omega arith))))

pub loop-k-preserved : goal.loop-k-preserved
loop-k-preserved c = (omega arith, all_to-more _ _ c.loop-k.invariant.1 (le-leb (le 8 c.args.b.now (8 * c.loop-k.k)) 1099511627776 (omega arith)))

pub returns : goal.returns
returns c = rw (fits_same c.args.a c.args.b.now) (sym (all_to_done _ c.loop-k.k _ (omega arith) (omega arith) c.loop-k.invariant.1))
