-- `instance::none` meets its contract. Assumes nothing.
use mathlib.Core.Path.{refl}
use Rattle.instance.specs.Gather.{gathered, owners, firsts}
use Rattle.instance.specs.Room.{held_at}
use Rattle.instance.proofs.none.Goals as goal

pub returns : goal.returns
unfolding held_at gathered owners firsts
returns c = refl
