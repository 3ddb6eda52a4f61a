use lib.ListN.{length-append}
use mathlib.Core.Path.{◌≡◌}
use native.Mathlib.Omega.{arith}
use Rattle.std.proofs.Common.{rules}
use Rattle.std.proofs.lemmas.Slice.Zip.{Zip-more, either_empty_from_Zip}
use Rattle.text.proofs.TailLaws.{pairs_end, pairs_turn}
use Rattle.text.proofs.WroteLaws.{left-all}
use Rattle.text.specs.Lines.{log_line}
use Rattle.text.specs.Tail.{number_lines, pair_lines}
use Rattle.text.proofs.tail.put_logs.Goals as goal

pub loop-instance-init : goal.loop-instance-init
unfolding number_lines pair_lines
loop-instance-init c =
    let a : c.into_iter-instance-iterator.result.a.rest.now ≡ c.args.instances.now = search rules in
    let b : c.into_iter-instance-iterator.result.b.rest.now ≡ c.args.numbers.now = search rules in
    rw (a, b) (left-all _ _ _)

pub loop-instance-preserved : goal.loop-instance-preserved
loop-instance-preserved c =
    pairs_turn (λ i. log_line) _ _ (Zip-more c.loop-instance.instance-iterator c.next.new.self _ _ c.in-Some.is c.next.ensures.steps)
    (simp length-append (omega arith)) c.loop-instance.invariant c.put_log-next.ensures

pub returns : goal.returns
returns c = pairs_end (λ i. log_line) _ _ _ (either_empty_from_Zip c.loop-instance.instance-iterator c.next.new.self _ c.in-None.is c.next.ensures.steps) c.loop-instance.invariant
