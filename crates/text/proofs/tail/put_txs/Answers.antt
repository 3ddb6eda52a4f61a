use native.Mathlib.Omega.{arith}
use Rattle.settlement.specs.Tables.{status_of}
use Rattle.text.proofs.TailLaws.{codes_are, lines_all, lines_none, lines_turn}
use Rattle.text.proofs.WroteLaws.{wrote_as, wrote_length}
use Rattle.text.specs.Lines.{tx_line}
use Rattle.text.proofs.tail.put_txs.Goals as goal

pub loop-x-init : goal.loop-x-init
loop-x-init c = lines_none (λ i c. tx_line i (status_of c)) c.args.statuses.now _ _

pub loop-x-preserved : goal.loop-x-preserved
loop-x-preserved c = lines_turn (λ i c. tx_line i (status_of c)) c.args.statuses.now _ 0 (omega arith) c.loop-x.invariant c.put_tx-next.ensures

pub shape_of-out : goal.shape_of-out
shape_of-out c = wrote_length c.loop-x.invariant

pub returns : goal.returns
returns c = wrote_as (codes_are _) (lines_all (λ i c. tx_line i (status_of c)) c.args.statuses.now _ (omega arith) c.loop-x.invariant)
