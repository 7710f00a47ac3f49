-- `instance::gather` meets its contract. Assumes nothing.
use mathlib.Core.Path.{◌≡◌}
use Rattle.instance.specs.Room.{held_at}
use Rattle.instance.proofs.gather.Given as goal

-- the first k contours are gathered
abbrev pub invariant-loop-k : goal.invariant-loop-k
invariant-loop-k l = l.all ≡ held_at l.card l.k
