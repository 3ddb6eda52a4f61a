use lib.ListN.{length}
use mathlib.Core.Logic.{⊎_elim}
use mathlib.Core.Path.{◌∙◌, ◌≡◌, refl, sym}
use native.Mathlib.Omega.{arith}
use Rattle.encoding.specs.Body.{operation_bytes}
use Rattle.fields.proofs.RowLaws.{list_tabulate, rows_none}
use Rattle.std.proofs.Common.{rules}
use Rattle.transactions.specs.Content.{no_operation}
use Rattle.transactions_write.proofs.BodyStores.{left_end, left_turn, operations-more}
use Rattle.transactions_write.specs.Values.{operation_with}
use Rattle.transactions_write.proofs.lists.put_operations.Goals as goal

pub loop-k-init : goal.loop-k-init
loop-k-init c =
    let a : c.into_iter-k-iterator.result.iter.a.a.rest.now ≡ c.args.codes.now = search rules in
    let b : c.into_iter-k-iterator.result.iter.a.b.rest.now ≡ c.args.registers.now = search rules in
    let v : c.into_iter-k-iterator.result.iter.b.rest.now ≡ c.args.values.now = search rules in
    let n : c.into_iter-k-iterator.result.count ≡ 0 = search rules in
    rw (a, b, v, n) (refl, refl, refl, omega arith, rw rows_none refl)

pub loop-k-preserved : goal.loop-k-preserved
loop-k-preserved c =
    let a = c.args in
    let k = c.loop-k.k-iterator.count in
    let inv = c.loop-k.invariant in
    let s = rw c.in-Some.is at c.next.ensures.steps in
    let x = left_turn a.codes.now k (sym s.0.0.0 ∙ inv.0) in
    let y = left_turn a.registers.now k (sym s.0.0.1 ∙ inv.1) in
    let z = left_turn a.values.now k (sym s.0.1 ∙ inv.2) in
    let first = rw (s.1, x.1) at c.put_byte.ensures in
    let second = rw (s.1, y.1) at c.put_byte-in-loop-k.ensures in
    let third = rw (s.1, z.1) at c.put_u32.ensures in
    rw s.2 (x.2, y.2, z.2, omega (arith, x.0), operations-more a.out.now a.codes.now a.registers.now a.values.now a.at k inv.4 first second third)

pub returns : goal.returns
returns c =
    let a = c.args in
    let inv = c.loop-k.invariant in
    let s = rw c.in-None.is at c.next.ensures.steps in
    let k = c.loop-k.k-iterator.count in
    let q : length a.codes.now ≡ k =
    ⊎_elim (λ e. ⊎_elim (λ f. omega (arith, inv.3, left_end a.codes.now k f.1.0 inv.0)) (λ f. omega (arith, inv.3, left_end a.registers.now k f.1.0 inv.1)) e.1)
    (λ e. omega (arith, inv.3, left_end a.values.now k e.1.0 inv.2)) s.0 in
    rw (list_tabulate operation_bytes no_operation (length a.codes.now) (operation_with a.codes.now a.registers.now a.values.now), q) inv.4
