-- Each contract of `closure`, `keep` and `hierarchy` comes to its definition. Assumes nothing.
use mathlib.Core.Path.{refl}
use Rattle.contracts.proofs.Laws.{told, alike}
use Rattle.contracts.specs.Pairs.{OfClosure, OfKeep, OfHierarchy, Claim}

of_closure : OfClosure
of_closure = record {
  first_on_cycle_lem = told _ (λ κs a u v. refl) (λ κs a x. alike);
  first_on_cycle_wide = told _ (λ κs a u v. refl) (λ κs a x. alike);
}

of_keep : OfKeep
of_keep = record {
  kept_at_lem = told _ (λ κs a u v. refl) (λ κs a x. alike);
  keeps_pairs_lem = told _ (λ κs a u v. refl) (λ κs a x. alike);
  is_ready_lem = told _ (λ κs a u v. refl) (λ κs a x. alike);
}

of_hierarchy : OfHierarchy
of_hierarchy = record {
  num_contours_lem = told _ (λ κs a u v. refl) (λ κs a x. alike);
  precedences = told _ (λ κs a u v. refl) (λ κs a x. alike);
  violates = told _ (λ κs a u v. refl) (λ κs a x. alike);
  predecessors = told _ (λ κs a u v. refl) (λ κs a x. alike);
  successors = told _ (λ κs a u v. refl) (λ κs a x. alike);
  is_valid_sequence_lem = told _ (λ κs a u v. refl) (λ κs a x. alike);
  topological_sort_lem = told _ (λ κs a u v. refl) (λ κs a x. alike);
}

pub claim : Claim
claim = (of_closure, of_keep, of_hierarchy)
