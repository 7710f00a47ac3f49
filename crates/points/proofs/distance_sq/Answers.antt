-- `points::distance_sq` meets its contract: the code is the definition. Assumes nothing.
use mathlib.Core.Path.{refl}
use Rattle.points.specs.Distance.{distance_sq_of, squares}
use Rattle.points.proofs.distance_sq.Goals as goal

pub returns : goal.returns
unfolding distance_sq_of squares
returns c = refl
