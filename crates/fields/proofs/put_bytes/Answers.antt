use Prim.Native.Nat.{◌+◌, ℕ}
use lib.ListN.{get_or, set}
use mathlib.Core.List.{List}
use mathlib.Core.Path.{◌∙◌, ap, sym}
use native.Mathlib.Omega.{arith}
use Rattle.fields.proofs.StoreLaws.{copy_more, sets_out}
use Rattle.fields.proofs.put_bytes.Goals as goal

pub returns-then-out-at : goal.returns-then-out-at
returns-then-out-at c = sym (sets_out c.args.bytes.now c.args.out.now c.args.at (omega arith))

pub loop-k-preserved : goal.loop-k-preserved
loop-k-preserved c = (omega arith, c.put_byte.ensures ∙ ap (λ (o : List ℕ). set o (c.args.at + c.loop-k.k) (get_or c.args.bytes.now c.loop-k.k 0)) c.loop-k.invariant.1 ∙ copy_more c.args.out.now c.args.bytes.now c.args.at c.loop-k.k (omega arith))
