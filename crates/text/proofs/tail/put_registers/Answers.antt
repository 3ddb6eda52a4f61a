use native.Mathlib.Omega.{arith}
use Rattle.text.proofs.TailLaws.{lines_all, lines_none, lines_turn}
use Rattle.text.proofs.WroteLaws.{wrote_length}
use Rattle.text.specs.Lines.{register_line}
use Rattle.text.specs.Tail.{register_lines}
use Rattle.text.proofs.tail.put_registers.Goals as goal

pub loop-r-init : goal.loop-r-init
loop-r-init c = lines_none register_line c.args.registers.now _ _

pub loop-r-preserved : goal.loop-r-preserved
loop-r-preserved c = lines_turn register_line c.args.registers.now _ 0 (omega arith) c.loop-r.invariant c.put_register-next.ensures

pub shape_of-out : goal.shape_of-out
shape_of-out c = wrote_length c.loop-r.invariant

pub returns : goal.returns
unfolding register_lines
returns c = lines_all register_line c.args.registers.now _ (omega arith) c.loop-r.invariant
