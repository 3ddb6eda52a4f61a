use lib.ListN.{take}
use Rattle.text.specs.Lines.{register_line}
use Rattle.text.specs.Tail.{lines_from}
use Rattle.text.specs.Wrote.{Wrote}
use Rattle.text.proofs.tail.put_registers.Given as goal

abbrev pub invariant-loop-r : goal.invariant-loop-r
invariant-loop-r l = Wrote l.initial.out l.at (lines_from register_line 0 (take l.r l.registers)) l.out l.next
