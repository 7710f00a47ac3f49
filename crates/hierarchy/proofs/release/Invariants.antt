-- `hierarchy::release` meets its contract. Assumes nothing.
use Rattle.hierarchy.specs.Code.{standing}
use Rattle.hierarchy.proofs.SortLaws.{ReleasePart}
use Rattle.hierarchy.proofs.release.Given as goal

abbrev pub invariant-loop-b : goal.invariant-loop-b
invariant-loop-b l =
    ReleasePart l.n l.x l.b-items l.b-index (standing l.initial.waits l.initial.order l.before) l.waits l.order l.count
