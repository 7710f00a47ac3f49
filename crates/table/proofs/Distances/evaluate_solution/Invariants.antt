-- `Distances::evaluate_solution` meets its contract. The invariant: walking on from here gives the whole length.
-- Assumes nothing.
use mathlib.Core.Path.{◌≡◌}
use Rattle.table.specs.Evaluate.{length_of}
use Rattle.table.proofs.WalkLaws.{onward}
use Rattle.table.proofs.Distances.evaluate_solution.Given as goal

abbrev pub invariant-loop-next : goal.invariant-loop-next
invariant-loop-next l =
    onward l.self.table.now l.self.count l.next-items l.next-index l.at l.total
    ≡ length_of l.self.home.now l.self.table.now l.self.count l.tour
