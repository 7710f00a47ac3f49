-- `hierarchy::tally` meets its contract. Assumes nothing.
use Rattle.hierarchy.proofs.SortLaws.{TallyPart}
use Rattle.hierarchy.proofs.tally.Given as goal

abbrev pub invariant-loop-b : goal.invariant-loop-b
invariant-loop-b l = TallyPart l.n l.b-items l.b-index l.waits
