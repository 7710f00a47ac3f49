-- `hierarchy::precedences` meets its contract. Assumes nothing.
use mathlib.Core.Path.{sym, ◌∙◌}
use Rattle.hierarchy.proofs.CheckLaws.{fine_small}
use Rattle.hierarchy.proofs.precedences.Goals as goal

pub list_pairs-requires : goal.list_pairs-requires
list_pairs-requires c = (fine_small _ _ (sym c.in_ok-check_pairs.was ∙ c.check_pairs.ensures)).short
