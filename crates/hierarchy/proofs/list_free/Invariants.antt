-- `hierarchy::list_free` meets its contract. Assumes nothing.
use Rattle.hierarchy.proofs.SortLaws.{FreePart}
use Rattle.hierarchy.proofs.list_free.Given as goal

abbrev pub invariant-loop-k : goal.invariant-loop-k
invariant-loop-k l = FreePart l.waits l.n l.k l.order l.count
