-- `start::offers` meets its contract. The invariant: the candidates still to come make of this choice what all of them
-- make of the first. Assumes nothing.
use mathlib.Core.Path.{◌≡◌}
use Prim.Native.Nat.{◌-◌}
use Rattle.table.proofs.EachLaws.{onwards}
use Rattle.table.specs.Each.{each}
use Rattle.start.specs.Code.{Tells, choice_of}
use Rattle.start.specs.Nearest.{Ground, Way, offer}
use Rattle.start.proofs.offers.Given as goal

abbrev pub invariant-loop-a : goal.invariant-loop-a
invariant-loop-a l =
    (g : Ground) (w : Way) → Tells l.distances l.last g w
    → onwards (offer g w l.k) l.end l.a (choice_of l.choice)
    ≡ each (offer g w l.k) (l.end - l.from) l.from (choice_of l.fn.best)
