-- `start::choose` meets its contract. The invariant: the contours still to come make of this choice what all of them
-- make of none. Assumes nothing.
use mathlib.Core.Path.{◌≡◌}
use Rattle.table.proofs.EachLaws.{onwards}
use Rattle.table.specs.Each.{each}
use Rattle.start.specs.Code.{Tells, Flags, choice_of}
use Rattle.start.specs.Nearest.{Ground, Way, considered, nothing_yet}
use Rattle.start.proofs.choose.Given as goal

abbrev pub invariant-loop-k : goal.invariant-loop-k
invariant-loop-k l =
    (g : Ground) (w : Way) → Tells l.distances l.last g w → l.first ≡ g.first → l.pairs ≡ g.pairs
    → Flags l.visited w.visited
    → onwards (considered g w) l.n l.k (choice_of l.best) ≡ each (considered g w) l.n 0 nothing_yet
