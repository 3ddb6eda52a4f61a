use lib.ListN.{take}
use Rattle.settlement.specs.Tables.{status_of}
use Rattle.text.specs.Lines.{tx_line}
use Rattle.text.specs.Tail.{lines_from}
use Rattle.text.specs.Wrote.{Wrote}
use Rattle.text.proofs.tail.put_txs.Given as goal

abbrev pub invariant-loop-x : goal.invariant-loop-x
invariant-loop-x l = Wrote l.initial.out l.at (lines_from (λ i c. tx_line i (status_of c)) 0 (take l.x l.statuses)) l.out l.next
