-- `table::fill_home` meets its contract. The invariant: the first a entries are filled, the rest of the room kept.
-- Assumes nothing.
use mathlib.Core.Path.{◌≡◌}
use mathlib.Core.List.{◌++◌}
use lib.ListN.{take, drop}
use Rattle.table.specs.Distances.{listed, home_leg}
use Rattle.table.proofs.fill_home.Given as goal

abbrev pub invariant-loop-a : goal.invariant-loop-a
invariant-loop-a l =
    l.room ≡ listed (home_leg (take l.t l.fn.items) l.home) l.a 0 ++ drop l.a l.initial.room
