-- `closure::join_rows` meets its contract. Assumes nothing.
use Rattle.closure.proofs.FlagLaws.{RowsPart}
use Rattle.closure.proofs.join_rows.Given as goal

abbrev pub invariant-loop-i : goal.invariant-loop-i
invariant-loop-i l = RowsPart l.n l.k l.i l.initial.flags l.flags
