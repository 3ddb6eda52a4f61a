use Rattle.text.proofs.TailLaws.{pairs_from}
use Rattle.text.proofs.WroteLaws.{Left}
use Rattle.text.specs.Lines.{account_line}
use Rattle.text.specs.Tail.{account_lines}
use Rattle.text.proofs.tail.put_accounts.Given as goal

-- the lines of what the iterators have left
abbrev pub invariant-loop-k : goal.invariant-loop-k
invariant-loop-k l =
    Left l.initial.out l.at (account_lines l.free l.held) l.out l.next
    (pairs_from account_line l.k-iterator.count l.k-iterator.iter.a.rest.now l.k-iterator.iter.b.rest.now)
