-- `closure::lowest_on_cycle` meets its contract. Assumes nothing.
use Rattle.std.proofs.Common.{List, map}
use Rattle.closure.specs.Pairs.{pair_of}
use Rattle.closure.proofs.FlagLaws.{NotedPart}
use Rattle.closure.proofs.lowest_on_cycle.Given as goal

abbrev pub invariant-loop-pair : goal.invariant-loop-pair
invariant-loop-pair g l =
    NotedPart l.n (map (λ (p : List g.row.P.Denot). pair_of (map g.P.Position.place p)) l.pairs) l.pair-index
    l.initial.flags l.flags
