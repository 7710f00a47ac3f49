-- `points::distance` meets its contract: the root of the squared distance. Assumes nothing.
use Rattle.points.specs.Distance.{distance_of}
use Rattle.points.proofs.distance.Goals as goal

pub returns : goal.returns
unfolding distance_of
returns c = rw (c.sqrt.ensures, c.distance_sq.ensures)
