-- `cost::closest_to` meets its contract. The loop's invariant: finishing from edge i with the best so far gives what
-- the whole walk gives. Assumes nothing.
use Rattle.cost.proofs.ClosestLaws.{Onwards}
use Rattle.cost.proofs.closest_to.Given as goal

abbrev pub invariant-loop-i : goal.invariant-loop-i
invariant-loop-i l = Onwards l.polygon l.p l.best l.i
