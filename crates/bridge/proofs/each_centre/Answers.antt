-- `bridge::each_centre` meets its contract: a bridge put into its place, and at last all of them. Assumes nothing.
use native.Mathlib.Omega.{arith}
use Rattle.points.specs.Points.{points}
use Rattle.bridge.specs.Create.{bridges_at}
use Rattle.bridge.proofs.FillLaws.{room_more, room_full}
use Rattle.bridge.proofs.each_centre.Goals as goal

pub loop-k-init : goal.loop-k-init
unfolding bridges_at
loop-k-init c = rw c.blank-items.ensures

pub loop-k-preserved : goal.loop-k-preserved
loop-k-preserved c =
    let s = c.args in
    rw (c.bridge_at.ensures, c.loop-k.invariant)
    (room_more (points s.numbers.now) s.marks.now s.half s.centres.now c.loop-k.k (omega arith) (omega arith))

pub returns : goal.returns
returns c =
    let s = c.args in
    rw c.loop-k.invariant
    (room_full (points s.numbers.now) s.marks.now s.half s.centres.now c.loop-k.k (omega arith))
