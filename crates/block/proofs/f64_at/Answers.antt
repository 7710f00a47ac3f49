-- `block::f64_at` meets its contract. Assumes nothing.
use Rattle.block.specs.Field.{f64_at}
use Rattle.block.proofs.f64_at.Goals as goal

pub returns : goal.returns
unfolding f64_at
returns c = cc
