-- `table::fill_table` meets its contract. The invariant: the first a rows are filled, the rest of the room kept.
-- Assumes nothing.
use mathlib.Core.Bool.{true}
use mathlib.Core.Path.{◌≡◌}
use mathlib.Core.List.{◌++◌}
use Prim.Native.Nat.{ℕ, ◌*◌, ◌<◌}
use lib.ListN.{take, drop}
use Rattle.table.specs.Distances.{chained, row_of}
use Rattle.table.proofs.BackLaws.{Closed}
use Rattle.table.proofs.fill_table.Given as goal

abbrev pub invariant-loop-a : goal.invariant-loop-a
invariant-loop-a l =
    (l.room ≡ chained (row_of (take l.t l.items) l.owner l.t) l.a 0 ++ drop (l.a * l.t) l.initial.room)
    × (l.closed ≡ true → (i : ℕ) → i < l.a → Closed l.items i)
