-- `keep::note_ranks` meets its contract. Assumes nothing.
use Rattle.keep.proofs.RankLaws.{RanksPart}
use Rattle.keep.proofs.note_ranks.Given as goal

abbrev pub invariant-loop-i : goal.invariant-loop-i
invariant-loop-i l = RanksPart l.order l.i l.initial.ranks l.ranks
