-- `reader::coordinates` meets its contract: what was read and what is still walked are the whole walk. Assumes nothing.
use mathlib.Core.Path.{◌≡◌}
use mathlib.Core.List.{◌++◌}
use Prim.Native.Nat.{◌-◌}
use lib.ListN.{length, take}
use Rattle.reader.specs.Walk.{walk, eights}
use Rattle.reader.proofs.coordinates.Given as goal

abbrev pub invariant-loop-x : goal.invariant-loop-x
invariant-loop-x l =
    (l.r.src.now ≡ l.card)
    × (take l.x-index l.x-items ++ walk l.card l.r.at (eights (l.count - l.x-index)) ≡ walk l.card l.at (eights l.count))
    × (length l.x-items ≡ l.count)
