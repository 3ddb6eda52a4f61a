use native.Mathlib.Omega.{arith}
use Rattle.text.proofs.LineLaws.{fields-none, fields_turn, line_done}
use Rattle.text.proofs.WroteLaws.{wrote_length, wrote_then}
use Rattle.text.proofs.write.put_line.Goals as goal

pub loop-n-init : goal.loop-n-init
loop-n-init c = fields-none c.args.numbers.now _ _

pub loop-n-preserved : goal.loop-n-preserved
loop-n-preserved c = fields_turn c.args.numbers.now _ (omega arith) c.loop-n.invariant c.put_field-next.ensures

pub shape_of-out : goal.shape_of-out
shape_of-out c = wrote_length (wrote_then c.put_word-next.ensures (wrote_then c.loop-n.invariant c.put_byte.ensures))

pub returns : goal.returns
returns c = line_done c.args.word.now c.args.numbers.now c.loop-n.n-index (omega arith) c.put_word-next.ensures c.loop-n.invariant c.put_byte.ensures
