-- `host::write_bridges` meets its contract. The loop's invariant: the first k bridges stand in the room. Assumes
-- nothing.
use Rattle.std.proofs.Common.{arith, get_or-take}
use Rattle.host.proofs.BridgeLaws.{stood_none, stood_more}
use Rattle.host.proofs.write_bridges.Goals as goal

pub loop-k-init : goal.loop-k-init
loop-k-init c = stood_none c.args.found.items _

pub loop-k-preserved : goal.loop-k-preserved
loop-k-preserved c =
    let items = c.args.found.items in
    let k = c.loop-k.k in
    rw c.write_bridge.ensures
    (stood_more items c.args.room.now _ k _ (omega arith)
    (get_or-take c.args.found.count items k _ (omega arith)) c.loop-k.invariant)
