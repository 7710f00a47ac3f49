-- `block::weighed` meets its contract. Assumes nothing.
use mathlib.Core.Path.{◌≡◌}
use Prim.Native.Nat.{◌≤◌, ◌*◌}
use lib.ListN.{take}
use Rattle.block.specs.Block.{check_offset, weigh}
use Rattle.block.proofs.weighed.Given as goal

abbrev pub invariant-loop-p : goal.invariant-loop-p
invariant-loop-p l = (l.sum ≡ weigh 1 (take l.p l.t)) × (l.sum ≤ check_offset * 255 * l.p)
