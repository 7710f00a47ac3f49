-- Each contract of `root`, `points`, `grid` and `cost` comes to its definition. Assumes nothing.
use mathlib.Core.Path.{refl}
use Rattle.contracts.proofs.Laws.{told, alike}
use Rattle.contracts.specs.Numbers.{OfRoot, OfPoints, OfGrid, OfCost, Claim}

of_root : OfRoot
of_root = record {
  sqrt = told _ (λ κs a u v. refl) (λ κs a x. alike);
  root = told _ (λ κs a u v. refl) (λ κs a x. alike);
}

of_points : OfPoints
of_points = record {
  bad_number_lem = told _ (λ κs a u v. refl) (λ κs a x. alike);
  bad_point_lem = told _ (λ κs a u v. refl) (λ κs a x. alike);
  point_at = told _ (λ κs a u v. refl) (λ κs a x. alike);
  edge_at = told _ (λ κs a u v. refl) (λ κs a x. alike);
  first_bad_lem = told _ (λ κs a u v. refl) (λ κs a x. alike);
  distance_sq_lem = told _ (λ κs a u v. refl) (λ κs a x. alike);
  distance = told _ (λ κs a u v. refl) (λ κs a x. alike);
  along = told _ (λ κs a u v. refl) (λ κs a x. alike);
}

of_grid : OfGrid
of_grid = record {
  moved = told _ (λ κs a u v. refl) (λ κs a x. alike);
  moved_point_lem = told _ (λ κs a u v. refl) (λ κs a x. alike);
}

of_cost : OfCost
of_cost = record {
  point_distance_sq = told _ (λ κs a u v. refl) (λ κs a x. alike);
  point_distance = told _ (λ κs a u v. refl) (λ κs a x. alike);
  clamp = told _ (λ κs a u v. refl) (λ κs a x. alike);
  closest_to_lem = told _ (λ κs a u v. refl) (λ κs a x. alike);
  closest_point_on_polygon = told _ (λ κs a u v. refl) (λ κs a x. alike);
  rapid_distance_lem = told _ (λ κs a u v. refl) (λ κs a x. alike);
  total_rapid_distance_lem = told _ (λ κs a u v. refl) (λ κs a x. alike);
  sequence_cost_lem = told _ (λ κs a u v. refl) (λ κs a x. alike);
}

pub claim : Claim
claim = (of_root, of_points, of_grid, of_cost)
