use lib.ListN.{length-take, take}
use mathlib.Core.Path.{◌≡◌, sym}
use native.Mathlib.Omega.{arith}
use Prim.Native.Nat.{◌<◌}
use Rattle.account_records.proofs.OverLaws.{over-more, over_front, over_none}
use Rattle.account_records.specs.Records.{joined}
use Rattle.account_records.proofs.fill.fill_records.Goals as goal

pub loop-k-init : goal.loop-k-init
loop-k-init c = sym (over_none (joined c.args.free.now c.args.held.now) (take c.args.n c.args.records.now))

pub loop-k-preserved : goal.loop-k-preserved
loop-k-preserved c =
    let len = length-take c.args.n c.args.records.now in
    let below : c.loop-k.k < c.args.n = omega (arith, len, c.loop-k-test.true) in
    rw (c.record_at.ensures, c.loop-k.invariant)
    (over-more c.loop-k.k c.args.free.now c.args.held.now (take c.args.n c.args.records.now) (omega arith) (omega arith) (omega arith))

pub returns : goal.returns
returns c =
    let rows = length-take c.args.n (joined c.args.free.now c.args.held.now) in
    let len = length-take c.args.n c.args.records.now in
    let all : c.loop-k.k ≡ c.args.n = omega (arith, len) in
    rw (c.loop-k.invariant, all) (over_front c.args.n (take c.args.n (joined c.args.free.now c.args.held.now)) c.args.records.now (omega (arith, rows)))
