-- `bridge::each_centre` meets its contract. The loop's invariant: the bridges of the first k centres stand in their
-- room. Assumes nothing.
use mathlib.Core.Path.{◌≡◌}
use Rattle.points.specs.Points.{points}
use Rattle.bridge.proofs.FillLaws.{room}
use Rattle.bridge.proofs.each_centre.Given as goal

abbrev pub invariant-loop-k : goal.invariant-loop-k
invariant-loop-k l = l.items ≡ room (points l.numbers) l.marks l.half l.centres l.k
