use mathlib.Core.Path.{◌≡◌, refl}
use native.Mathlib.Omega.{arith}
use Rattle.std.proofs.Common.{rules}
use Rattle.std.proofs.lemmas.Slice.Zip.{Zip-more, either_empty_from_Zip}
use Rattle.text.proofs.TailLaws.{pairs_end, pairs_turn}
use Rattle.text.proofs.WroteLaws.{left-all}
use Rattle.text.specs.Lines.{account_line}
use Rattle.text.specs.Tail.{account_lines, pair_lines}
use Rattle.text.proofs.tail.put_accounts.Goals as goal

pub loop-k-init : goal.loop-k-init
unfolding account_lines pair_lines
loop-k-init c =
    let a : c.into_iter-k-iterator.result.iter.a.rest.now ≡ c.args.free.now = search rules in
    let b : c.into_iter-k-iterator.result.iter.b.rest.now ≡ c.args.held.now = search rules in
    let n : c.into_iter-k-iterator.result.count ≡ 0 = search rules in
    rw (a, b, n) (left-all _ _ _)

pub loop-k-preserved : goal.loop-k-preserved
loop-k-preserved c =
    let s = rw c.in-Some.is at c.next.ensures.steps in
    let left = Zip-more c.loop-k.k-iterator.iter c.next.new.self.iter _ (c.in-Some.field-0-1-0, c.in-Some.field-0-1-1) refl s.0 in
    pairs_turn account_line _ _ left (omega arith) c.loop-k.invariant (rw s.1 at c.put_account-next.ensures)

pub returns : goal.returns
returns c =
    let s = rw c.in-None.is at c.next.ensures.steps in
    pairs_end account_line _ _ _ (either_empty_from_Zip c.loop-k.k-iterator.iter c.next.new.self.iter _ refl s.0) c.loop-k.invariant
