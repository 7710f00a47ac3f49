-- `improve::run` meets its contract. Each loop's invariant: what is still to come in it makes of this state what the
-- whole loop makes of the state at its beginning. Assumes nothing.
use mathlib.Core.Bool.{true, false}
use mathlib.Core.Path.{◌≡◌}
use Prim.Native.Nat.{◌+◌, ◌*◌, ◌-◌, ◌≤◌}
use Rattle.table.proofs.EachLaws.{onwards}
use Rattle.table.specs.Each.{each}
use Rattle.improve.specs.Code.{state_of, charted}
use Rattle.improve.specs.Search.{turn, reversal, row, repeated, begun}
use Rattle.improve.proofs.run.Given as goal

abbrev pub invariant-loop-p : goal.invariant-loop-p
invariant-loop-p l =
    let step = turn (charted l.chart) l.limit in
    (onwards step l.n l.p (state_of l.tour l.progress false)
    ≡ each step l.n 0 (state_of l.initial.tour l.initial.progress false))
    × (l.progress.moves ≤ l.initial.progress.moves + 255 * l.p)

abbrev pub invariant-loop-j : goal.invariant-loop-j
invariant-loop-j l =
    let step = reversal (charted l.chart) l.limit l.i in
    (onwards step l.n l.j (state_of l.tour l.progress false)
    ≡ each step (l.n - (l.i + 2)) (l.i + 2) (state_of l.initial.tour l.initial.progress false))
    × (l.progress.moves + l.i + 2 ≤ l.initial.progress.moves + l.j)

abbrev pub invariant-loop-i : goal.invariant-loop-i
invariant-loop-i l =
    let step = row (charted l.chart) l.limit l.n in
    (onwards step (l.n - 1) l.i (state_of l.tour l.progress false)
    ≡ each step (l.n - 1) 0 (state_of l.initial.tour l.initial.progress false))
    × (l.progress.moves ≤ l.initial.progress.moves + 255 * l.i)

abbrev pub invariant-search : goal.invariant-search
invariant-search l =
    let chart = charted l.chart in
    (repeated chart l.limit l.n (l.passes - l.counter) (state_of l.tour l.progress false)
    ≡ repeated chart l.limit l.n l.passes (begun chart l.initial.tour))
    × (l.progress.better ≡ true)
    × (l.progress.moves ≤ 131072 * l.counter)
