-- `block::check_at` meets its contract. Assumes nothing.
use native.Mathlib.Omega.{arith}
use lib.ListN.{length-take}
use Rattle.block.specs.Block.{check_at}
use Rattle.block.proofs.check_at.Goals as goal

pub weighed-requires : goal.weighed-requires
weighed-requires c = rw (c.part.ensures, length-take) (omega arith)

pub returns : goal.returns
unfolding check_at
returns c = rw (← c.part.ensures) c.weighed.ensures
