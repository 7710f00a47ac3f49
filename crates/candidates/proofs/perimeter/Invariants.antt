-- `candidates::perimeter` meets its contract. The loop's invariant: adding up from edge i with the sum so far gives the
-- perimeter. Assumes nothing.
use Rattle.candidates.proofs.AlongLaws.{Summed}
use Rattle.candidates.proofs.perimeter.Given as goal

abbrev pub invariant-loop-i : goal.invariant-loop-i
invariant-loop-i l = Summed l.numbers l.sum l.i
