-- `host::write_bridge` meets its contract: eight numbers over eight. Assumes nothing.
use Rattle.std.proofs.Common.{◌*◌, ◌∙◌, arith}
use Rattle.host.specs.Bridges.{eight_of}
use Rattle.host.proofs.BridgeLaws.{copied_over}
use Rattle.host.proofs.write_bridge.Goals as goal

pub returns : goal.returns
returns c =
    let s = c.args in
    copied_over s.room.now _ (eight_of s.b) (8 * s.k) _ (omega arith) (omega arith)
    (c.copy_from_slice.ensures.after ∙ rw c.nearest_u64_to_f64-edge.ensures)
