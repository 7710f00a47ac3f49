-- `bridge::half_of` meets its contract: the code is the definition. Assumes nothing.
use mathlib.Core.Path.{refl}
use Rattle.bridge.specs.Question.{half_of}
use Rattle.bridge.proofs.half_of.Goals as goal

pub returns : goal.returns
unfolding half_of
returns c = refl
