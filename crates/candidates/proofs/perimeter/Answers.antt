-- `candidates::perimeter` meets its contract: adding up, an edge at a time. Assumes nothing.
use Rattle.candidates.proofs.AlongLaws.{summed_start, summed-step, summed_done}
use Rattle.candidates.proofs.perimeter.Goals as goal

pub loop-i-init : goal.loop-i-init
loop-i-init c = summed_start _

pub loop-i-preserved : goal.loop-i-preserved
loop-i-preserved c =
    rw (c.length_of-sum.ensures, c.edge_at.ensures) (summed-step _ _ _ c.loop-i-test.true c.loop-i.invariant)

pub returns : goal.returns
returns c = summed_done _ _ _ c.loop-i-test.false c.loop-i.invariant
