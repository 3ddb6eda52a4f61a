use Rattle.text.proofs.WroteLaws.{wrote_then}
use Rattle.text.specs.Tail.{lists_text}
use Rattle.text.proofs.tail.put_tail.Goals as goal

pub returns : goal.returns
unfolding lists_text
returns c =
    let logs = rw (c.front.ensures, c.front-2.ensures) at c.put_logs-logs.ensures in
    let txs = rw c.front-3.ensures at c.put_txs-txs.ensures in
    let accounts = rw (c.front-4.ensures, c.front-5.ensures) at c.put_accounts-accounts.ensures in
    let registers = rw c.front-6.ensures at c.put_registers-next.ensures in
    wrote_then logs (wrote_then txs (wrote_then accounts (wrote_then registers c.put_share.ensures)))
