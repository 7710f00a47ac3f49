-- `cost::rapid_distance` meets its contract: the sum over the legs, a leg at a time. Assumes nothing.
use Rattle.std.proofs.Common.{arith}
use Rattle.cost.proofs.RapidLaws.{onwards_step, onwards_done, no_legs}
use Rattle.cost.proofs.rapid_distance.Goals as goal

pub returns-then-n-eq0 : goal.returns-then-n-eq0
returns-then-n-eq0 c = no_legs _ _ c.if-n-eq0.true

pub loop-k-preserved : goal.loop-k-preserved
loop-k-preserved c =
    rw (c.distance-total-in-loop-k.ensures, c.leg_at-leg.ensures)
    (onwards_step _ _ _ _ _ _ c.loop-k-test.true c.loop-k.invariant)

pub returns : goal.returns
returns c =
    onwards_done _ _ _ _ _ (omega arith) c.loop-k-test.false
    (rw (c.distance-total.ensures, c.leg_at-first.ensures) at c.loop-k.invariant)
