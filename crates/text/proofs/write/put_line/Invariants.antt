use Rattle.text.proofs.LineLaws.{fields_to}
use Rattle.text.specs.Wrote.{Wrote}
use Rattle.text.proofs.write.put_line.Given as goal

abbrev pub invariant-loop-n : goal.invariant-loop-n
invariant-loop-n l = Wrote l.initial.out l.initial.next (fields_to l.numbers l.n-index) l.out l.next
