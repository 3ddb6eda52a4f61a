use lib.ListN.{length}
use mathlib.Core.Logic.{⊎_elim}
use mathlib.Core.Path.{◌∙◌, ◌≡◌, refl, sym}
use native.Mathlib.Omega.{arith}
use Rattle.encoding.specs.Body.{entry_bytes}
use Rattle.fields.proofs.RowLaws.{list_tabulate, rows_none}
use Rattle.std.proofs.Common.{rules}
use Rattle.transactions.specs.Content.{no_entry}
use Rattle.transactions_write.proofs.BodyStores.{entries-more, left_end, left_turn}
use Rattle.transactions_write.specs.Values.{entry_with}
use Rattle.transactions_write.proofs.lists.put_entries.Goals as goal

pub loop-k-init : goal.loop-k-init
loop-k-init c =
    let a : c.into_iter-k-iterator.result.iter.a.rest.now ≡ c.args.accounts.now = search rules in
    let b : c.into_iter-k-iterator.result.iter.b.rest.now ≡ c.args.amounts.now = search rules in
    let n : c.into_iter-k-iterator.result.count ≡ 0 = search rules in
    rw (a, b, n) (refl, refl, omega arith, rw rows_none refl)

pub loop-k-preserved : goal.loop-k-preserved
loop-k-preserved c =
    let a = c.args in
    let k = c.loop-k.k-iterator.count in
    let inv = c.loop-k.invariant in
    let s = rw c.in-Some.is at c.next.ensures.steps in
    let x = left_turn a.accounts.now k (sym s.0.0 ∙ inv.0) in
    let y = left_turn a.amounts.now k (sym s.0.1 ∙ inv.1) in
    let first = rw (s.1, x.1) at c.put_u16.ensures in
    let second = rw (s.1, y.1) at c.put_u32.ensures in
    rw s.2 (x.2, y.2, omega (arith, x.0), entries-more a.out.now a.accounts.now a.amounts.now a.at k inv.3 first second)

pub returns : goal.returns
returns c =
    let a = c.args in
    let inv = c.loop-k.invariant in
    let s = rw c.in-None.is at c.next.ensures.steps in
    let k = c.loop-k.k-iterator.count in
    let q : length a.accounts.now ≡ k = ⊎_elim (λ e. omega (arith, inv.2, left_end a.accounts.now k e.1.0 inv.0)) (λ e. omega (arith, inv.2, left_end a.amounts.now k e.1.0 inv.1)) s.0 in
    rw (list_tabulate entry_bytes no_entry (length a.accounts.now) (entry_with a.accounts.now a.amounts.now), q) inv.3
