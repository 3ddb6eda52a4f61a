use Rattle.std.proofs.Common.{rules}
use lib.ListN.{get_or}
use mathlib.Core.Path.{◌≡◌}
use Prim.Native.Nat.{◌*◌, ◌+◌, ◌-◌}
use native.Mathlib.Omega.{arith}
use Rattle.admission.proofs.BlockLaws.{rank-none, rank-some}
use Rattle.admission.proofs.block.last_rank.Goals as goal

pub returns-then-h-eq0 : goal.returns-then-h-eq0
returns-then-h-eq0 c = rank-none c.args.heights c.args.ranks.now _ c.count_at-h.ensures c.if-h-eq0.true

pub returns : goal.returns
returns c =
    let e : c.unwrap_or.result ≡ get_or c.args.ranks.now (c.args.i * 128 + c.count_at-h.result - 1) 0 = search rules in
    rank-some c.args.heights c.args.ranks.now _ c.count_at-h.ensures c.if-h-eq0.false (omega arith) e
