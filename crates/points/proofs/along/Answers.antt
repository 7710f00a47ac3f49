-- `points::along` meets its contract: the code is the definition. Assumes nothing.
use mathlib.Core.Path.{refl}
use Rattle.points.specs.Along.{along_of}
use Rattle.points.proofs.along.Goals as goal

pub returns : goal.returns
unfolding along_of
returns c = refl
