use lib.ListN.{length}
use Rattle.text.proofs.TailLaws.{pairs_from}
use Rattle.text.proofs.WroteLaws.{Left}
use Rattle.text.specs.Lines.{log_line}
use Rattle.text.specs.Tail.{number_lines}
use Rattle.text.proofs.tail.put_logs.Given as goal

-- the lines of what the iterators have left
abbrev pub invariant-loop-instance : goal.invariant-loop-instance
invariant-loop-instance l =
    Left l.initial.out l.at (number_lines l.instances l.numbers) l.out l.next
    (pairs_from (λ i. log_line) (length l.yielded) l.instance-iterator.a.rest.now l.instance-iterator.b.rest.now)
