-- `improve::turn_at` meets its contract. The invariant: the candidates still to come make of this state what all of
-- them make of the first; the count has grown by no more than the candidates passed. Assumes nothing.
use mathlib.Core.Bool.{false}
use mathlib.Core.Path.{◌≡◌}
use Prim.Native.Nat.{◌+◌, ◌-◌, ◌≤◌, ◌<◌}
use Rattle.table.proofs.EachLaws.{onwards}
use Rattle.table.specs.Each.{each}
use Rattle.improve.specs.Code.{state_of, charted}
use Rattle.improve.specs.Search.{alternative}
use Rattle.improve.proofs.turn_at.Given as goal

abbrev pub invariant-loop-a : goal.invariant-loop-a
invariant-loop-a l =
    let step = alternative (charted l.chart) l.limit l.p l.held in
    (onwards step l.end l.a (state_of l.tour l.progress false)
    ≡ each step (l.end - l.from) l.from (state_of l.initial.tour l.initial.progress false))
    × (l.a < 256)
    × (l.progress.moves + l.from ≤ l.initial.progress.moves + l.a)
