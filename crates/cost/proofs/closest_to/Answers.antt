-- `cost::closest_to` meets its contract: the walk over the edges, a step at a time. Assumes nothing.
use Rattle.std.proofs.Common.{arith}
use Rattle.cost.proofs.ClosestLaws.{onwards_step, onwards_done, no_vertices}
use Rattle.cost.proofs.closest_to.Goals as goal

pub returns-then-n-eq0 : goal.returns-then-n-eq0
returns-then-n-eq0 c = no_vertices _ _ c.if-n-eq0.true

pub loop-i-preserved : goal.loop-i-preserved
loop-i-preserved c =
    rw (c.closer-best.ensures, c.edge_at.ensures) (onwards_step _ _ _ _ c.loop-i-test.true c.loop-i.invariant)

pub returns : goal.returns
returns c = onwards_done _ _ _ _ (omega arith) c.loop-i-test.false c.loop-i.invariant
