-- `closure::join_row` meets its contract. Assumes nothing.
use Rattle.closure.proofs.FlagLaws.{RowPart}
use Rattle.closure.proofs.join_row.Given as goal

abbrev pub invariant-loop-j : goal.invariant-loop-j
invariant-loop-j l = RowPart l.n l.k l.i l.j l.initial.flags l.flags
