-- `cost::clamp` meets its contract: the library's clamp is the definition. Assumes nothing.
use Rattle.cost.specs.Closest.{clamp_of}
use Rattle.cost.proofs.clamp.Goals as goal

pub returns : goal.returns
unfolding clamp_of
returns c = c.clamp.ensures.value
