-- `candidates::on_edge` meets its contract: the test on the length decides it. Assumes nothing.
use Rattle.candidates.specs.Along.{on_edge}
use Rattle.candidates.proofs.on_edge.Goals as goal

pub returns-then-length : goal.returns-then-length
unfolding on_edge
returns-then-length c = rw (← c.length_of-length.ensures, c.if-length.true)

pub returns-else-length : goal.returns-else-length
unfolding on_edge
returns-else-length c = rw (← c.length_of-length.ensures, c.if-length.false, c.along-point.ensures)
