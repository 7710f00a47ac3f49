-- `hierarchy::topological_sort` meets its contract. Assumes nothing.
use mathlib.Core.Path.{sym, ◌∙◌}
use Rattle.hierarchy.proofs.CheckLaws.{fine_small}
use Rattle.hierarchy.proofs.topological_sort.Goals as goal

pub sorted-requires : goal.sorted-requires
sorted-requires c = (fine_small _ _ (sym c.in_ok-check_pairs.was ∙ c.check_pairs.ensures)).few
