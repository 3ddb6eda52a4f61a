use native.Mathlib.Omega.{arith}
use Rattle.text.proofs.WroteLaws.{word_done, word_more, wrote_length, wrote_none}
use Rattle.text.proofs.write.put_word.Goals as goal

pub loop-b-init : goal.loop-b-init
loop-b-init c = wrote_none _ _

pub loop-b-preserved : goal.loop-b-preserved
loop-b-preserved c = word_more c.args.word.now _ (omega arith) c.loop-b.invariant c.put_byte-next.ensures

pub shape_of-out : goal.shape_of-out
shape_of-out c = wrote_length c.loop-b.invariant

pub returns : goal.returns
returns c = word_done c.args.word.now _ (omega arith) c.loop-b.invariant
