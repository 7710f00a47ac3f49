-- `closure::close` meets its contract. Assumes nothing.
use Rattle.closure.proofs.FlagLaws.{ClosedPart}
use Rattle.closure.proofs.close.Given as goal

abbrev pub invariant-loop-k : goal.invariant-loop-k
invariant-loop-k l = ClosedPart l.n l.k l.initial.flags l.flags
