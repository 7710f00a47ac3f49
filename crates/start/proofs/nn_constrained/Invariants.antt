-- `start::nn_constrained` meets its contract. The invariant: the steps still to come lead from the tour written so far
-- to where all of them lead from nothing; the room's rest is as it was. Assumes nothing.
use mathlib.Core.List.{List}
use mathlib.Core.Path.{◌≡◌}
use Prim.Native.Nat.{ℕ, ◌≤◌}
use lib.ListN.{length, take, drop}
use Rattle.table.proofs.EachLaws.{onwards}
use Rattle.table.specs.Each.{each}
use Rattle.start.specs.Code.{ground_on, flag_count, Flags, stood}
use Rattle.start.specs.Nearest.{set_out, step}
use Rattle.start.proofs.StepLaws.{way_of}
use Rattle.start.proofs.nn_constrained.Given as goal

abbrev pub invariant-loop : goal.invariant-loop
invariant-loop l =
    let g = ground_on l.distances l.first l.pairs in
    ((met : List ℕ)
    × Flags l.visited met
    × (onwards (step g l.n) l.n l.counter (way_of l.tour met l.made) ≡ each (step g l.n) l.n 0 set_out))
    × (l.made ≤ l.counter)
    × (length l.visited ≡ flag_count)
    × (l.last ≡ stood (take l.made l.tour))
    × (drop l.made l.tour ≡ drop l.made l.initial.tour)
