-- `candidates::spaced` meets its contract. The loop's invariant: the first k places are filled, the others blank.
-- Assumes nothing.
use Rattle.std.proofs.Common.{◌≡◌}
use Rattle.points.specs.Points.{points}
use Rattle.candidates.proofs.FillLaws.{room}
use Rattle.candidates.proofs.spaced.Given as goal

abbrev pub invariant-loop-k : goal.invariant-loop-k
invariant-loop-k l = l.items ≡ room l.grid l.direction (points l.numbers) l.total l.c l.k
