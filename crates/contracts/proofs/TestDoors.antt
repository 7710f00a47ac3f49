-- Each contract of `probe` comes to its definition. Assumes nothing.
use mathlib.Core.Path.{refl}
use Rattle.contracts.proofs.Laws.{same, ◌&◌, told, lent, alike}
use Rattle.contracts.specs.TestDoors.{OfProbe, Claim}

of_probe : OfProbe
of_probe = record {
  probe_root_lem = lent (λ κs a x y p q. same p.0 q.0 & refl & same p.1 q.1 & refl) (λ κs a x. alike);
  probe_sqrt_lem = told _ (λ κs a u v. refl) (λ κs a x. alike);
  probe_moved_lem = told _ (λ κs a u v. refl) (λ κs a x. alike);
  probe_distance = lent
      (λ κs a x y p q. same p.0 q.0 & refl & refl & refl & refl & same p.1 q.1 & refl)
      (λ κs a x. alike);
  probe_distance_sq_lem = lent
      (λ κs a x y p q. same p.0 q.0 & refl & refl & refl & refl & same p.1 q.1 & refl)
      (λ κs a x. alike);
  probe_between_lem = told _ (λ κs a u v. refl) (λ κs a x. alike);
  probe_rapid_lem = lent
      (λ κs a x y p q. same p.0 q.0 & refl & refl & refl & same p.1 q.1 & refl)
      (λ κs a x. alike);
  probe_sequence_cost_lem = lent
      (λ κs a x y p q. same p.0 q.0 & refl & refl & refl & same p.1 q.1 & refl)
      (λ κs a x. alike);
  probe_closest_lem = lent
      (λ κs a x y p q. same p.0 q.0 & refl & refl & refl & same p.1.0 q.1.0 &
      same p.1.1.0 q.1.1.0 & same p.1.1.1.0 q.1.1.1.0 & same p.1.1.1.1 q.1.1.1.1 &
      refl)
      (λ κs a x. alike);
  probe_num_contours_lem = lent
      (λ κs a x y p q. same p.0 q.0 & refl & refl & same p.1 q.1 & refl)
      (λ κs a x. alike);
  probe_violates_lem = told _ (λ κs a u v. refl) (λ κs a x. alike);
  probe_is_valid_sequence_lem = told _ (λ κs a u v. refl) (λ κs a x. alike);
  probe_precedences_lem = lent
      (λ κs a x y p q. same p.0 q.0 & refl & refl & same p.1.0 q.1.0 & same p.1.1 q.1.1 & refl)
      (λ κs a x. alike);
  probe_predecessors_lem = lent
      (λ κs a x y p q. same p.0 q.0 & refl & refl & refl & same p.1.0 q.1.0 & same p.1.1 q.1.1 &
      refl)
      (λ κs a x. alike);
  probe_successors_lem = lent
      (λ κs a x y p q. same p.0 q.0 & refl & refl & refl & same p.1.0 q.1.0 & same p.1.1 q.1.1 &
      refl)
      (λ κs a x. alike);
  probe_candidate_lem = lent
      (λ κs a x y p q. same p.0 q.0 & refl & refl & refl & refl & refl & refl & refl &
      same p.1.0 q.1.0 & same p.1.1.0 q.1.1.0 & same p.1.1.1.0 q.1.1.1.0 &
      same p.1.1.1.1 q.1.1.1.1 & refl)
      (λ κs a x. alike);
  probe_topological_sort_lem = lent
      (λ κs a x y p q. same p.0 q.0 & refl & refl & same p.1.0 q.1.0 & same p.1.1 q.1.1 & refl)
      (λ κs a x. alike);
  probe_check_lem = told _ (λ κs a u v. refl) (λ κs a x. alike);
  probe_evaluate_lem = told _ (λ κs a u v. refl) (λ κs a x. alike);
  probe_improve_lem = lent
      (λ κs a x y p q. same p.counted q.counted & refl & refl & refl & refl & refl & refl &
      same p.held q.held & refl)
      (λ κs a x. alike);
  probe_start = lent
      (λ κs a x y p q. same p.counted q.counted & refl & refl & refl & refl & refl & same p.held q.held &
      refl)
      (λ κs a x. alike);
  probe_solve_nn_lem = lent
      (λ κs a x y p q. same p.counted q.counted & refl & refl & refl & refl & same p.held q.held & refl)
      (λ κs a x. alike);
  probe_distances_lem = lent
      (λ κs a x y p q. refl & refl & same p.0 q.0 & same p.1.0 q.1.0 & same p.1.1 q.1.1 & refl)
      (λ κs a x. alike);
}

pub claim : Claim
claim = of_probe
