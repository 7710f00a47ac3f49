-- `grid::moved_point` meets its contract: each coordinate by itself. Assumes nothing.
use Rattle.grid.specs.Move.{moved_point}
use Rattle.grid.proofs.moved_point.Goals as goal

pub returns : goal.returns
unfolding moved_point
returns c = rw (c.moved-2.ensures, c.moved.ensures)
