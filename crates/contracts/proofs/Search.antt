-- Each contract of the search's crates and of `bridge` comes to its definition. Assumes nothing.
use mathlib.Core.Path.{refl}
use Rattle.std.specs.Prelude.{◌≡◌, ℕ, List}
use Rattle.start.specs.Code.{Written}
use Rattle.contracts.proofs.Laws.{same, ◌&◌, told, lent, alike}
use Rattle.contracts.specs.Search.{OfCandidates, OfBridge, OfTable, OfStart, OfImprove, OfInstance, OfSolve}
use Rattle.contracts.specs.Search.{Claim}

of_candidates : OfCandidates
of_candidates = record {
  determine_direction_lem = told _ (λ κs a u v. refl) (λ κs a x. alike);
  length_of_lem = told _ (λ κs a u v. refl) (λ κs a x. alike);
  perimeter = told _ (λ κs a u v. refl) (λ κs a x. alike);
  on_the_way_lem = told _ (λ κs a u v. refl) (λ κs a x. alike);
  last_spot_lem = told _ (λ κs a u v. refl) (λ κs a x. alike);
  spot_at_lem = told _ (λ κs a u v. refl) (λ κs a x. alike);
  candidates_of_lem = told _ (λ κs a u v. refl) (λ κs a x. alike);
  contour_check_lem = told _ (λ κs a u v. refl) (λ κs a x. alike);
  contour_candidates_lem = told _ (λ κs a u v. refl) (λ κs a x. alike);
}

of_bridge : OfBridge
of_bridge = record { bridges_at_lem = told _ (λ κs a u v. refl) (λ κs a x. alike) }

of_table : OfTable
of_table = record {
  float_at = told _ (λ κs a u v. refl) (λ κs a x. alike);
  byte_at_lem = told _ (λ κs a u v. refl) (λ κs a x. alike);
  home_at_lem = told _ (λ κs a u v. refl) (λ κs a x. alike);
  distance_at_lem = told _ (λ κs a u v. refl) (λ κs a x. alike);
  evaluate_solution_lem = told _ (λ κs a u v. refl) (λ κs a x. alike);
  fill_table_lem = lent (λ κs a x y p q. refl & same p q & refl) (λ κs a x. alike);
  fill_home_lem = lent (λ κs a x y p q. refl & same p q & refl) (λ κs a x. alike);
}

-- one tour, written to a room twice over, is told and left alike
told_once : {tour room : List ℕ} {m n : ℕ} {after left : List ℕ} → Written tour room m after → Written tour room n left
    → m ≡ n
told_once p q = same p.counted q.counted

left_once : {tour room : List ℕ} {m n : ℕ} {after left : List ℕ} → Written tour room m after → Written tour room n left
    → after ≡ left
left_once p q = same p.held q.held

of_start : OfStart
of_start = record {
  nn_constrained_lem = lent
      (λ κs a x y p q. told_once p q & refl & refl & refl & left_once p q & refl)
      (λ κs a x. alike);
  solve_nn_lem = lent
      (λ κs a x y p q. told_once p q & refl & refl & left_once p q & refl)
      (λ κs a x. alike);
}

of_improve : OfImprove
of_improve = record {
  improve = lent
      (λ κs a x y p q. same p.counted q.counted & refl & same p.held q.held & refl)
      (λ κs a x. alike);
}

of_instance : OfInstance
of_instance = record {
  gather = told _ (λ κs a u v. refl) (λ κs a x. alike);
  prepare = told _ (λ κs a u v. refl) (λ κs a x. alike);
}

of_solve : OfSolve
of_solve = record {
  solve_constrained_lem = lent
      (λ κs a x y p q. same p.told q.told & refl & same p.held q.held & refl)
      (λ κs a x. alike);
}

pub claim : Claim
claim = (of_candidates, of_bridge, of_table, of_start, of_improve, of_instance, of_solve)
