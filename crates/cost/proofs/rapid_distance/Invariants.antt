-- `cost::rapid_distance` meets its contract. The loop's invariant: going on from leg k with the sum so far gives what
-- going on from leg 1 gave. Assumes nothing.
use Rattle.cost.proofs.RapidLaws.{Onwards}
use Rattle.cost.proofs.rapid_distance.Given as goal

abbrev pub invariant-loop-k : goal.invariant-loop-k
invariant-loop-k l = Onwards l.numbers l.initial.total l.initial.at l.total l.at l.k
