-- `table::fill_row` meets its contract. The invariant: the first b entries are filled, the rest of the room kept.
-- Assumes nothing.
use mathlib.Core.Path.{◌≡◌}
use mathlib.Core.List.{◌++◌}
use lib.ListN.{take, drop}
use Rattle.table.specs.Distances.{listed, leg_at}
use Rattle.table.proofs.fill_row.Given as goal

abbrev pub invariant-loop-b : goal.invariant-loop-b
invariant-loop-b l =
    l.room ≡ listed (leg_at (take l.t l.items) l.owner l.a) l.b 0 ++ drop l.b l.initial.room
