-- What the contracts of `probe` come to: see Contract. Assumes nothing.
use Rattle.std.specs.Prelude.{◌≡◌, [], length}
use Rattle.probe.specs.Told.{answer_code, value_or, closest_code, nearest_or}
use Rattle.probe.specs.Told.{verdict_code, way_of, asked_of, nth_of, place_of, told_or}
use Rattle.root.specs.Root.{sqrt_of, root_of}
use Rattle.points.specs.Points.{point}
use Rattle.points.specs.Distance.{distance_of}
use Rattle.grid.specs.Move.{moved}
use Rattle.cost.specs.Distance.{point_distance_of, point_distance_sq_of}
use Rattle.cost.specs.Closest.{closest_on_polygon_of}
use Rattle.cost.specs.Rapid.{total_rapid_of}
use Rattle.cost.specs.Sequence.{sequence_cost_of}
use Rattle.answer.specs.Code.{code_of}
use Rattle.hierarchy.specs.Questions.{num_contours, precedences_of, violates_of, predecessors_of, successors_of}
use Rattle.hierarchy.specs.Questions.{valid_sequence, topological_sort}
use Rattle.card.specs.Verdict.{check_of}
use Rattle.fields.specs.Layout.{home_offset}
use Rattle.fields.specs.Values.{point_at}
use Rattle.instance.specs.Room.{instance_of}
use Rattle.table.specs.Distances.{homed, tabled}
use Rattle.table.specs.Evaluate.{length_of}
use Rattle.start.specs.Nearest.{nearest}
use Rattle.start.specs.Code.{ground_of, Written}
use Rattle.improve.specs.Search.{searched}
use Rattle.improve.specs.Code.{Reached, chart_of}
use Rattle.probe.specs.contracts as Probe
use Rattle.probe.proofs as ProbeProofs
use Rattle.contracts.specs.Contract.{Says}

-- probe
pub record OfProbe : Type 0 where
  pub probe_root_lem : Says Probe.probe_root.ended ProbeProofs.probe_root.Reads.Asked
      ProbeProofs.probe_root.Reads.Learnt
      (λ _ x out r out'. (r ≡ answer_code (root_of x)) × (out' ≡ value_or (root_of x) out.now))
  pub probe_sqrt_lem : Says Probe.probe_sqrt.ended ProbeProofs.probe_sqrt.Reads.Asked
      ProbeProofs.probe_sqrt.Reads.Learnt
      (λ _ x r. r ≡ sqrt_of x)
  pub probe_moved_lem : Says Probe.probe_moved.ended ProbeProofs.probe_moved.Reads.Asked
      ProbeProofs.probe_moved.Reads.Learnt
      (λ _ x r. r ≡ moved x)
  pub probe_distance : Says Probe.probe_distance.ended ProbeProofs.probe_distance.Reads.Asked
      ProbeProofs.probe_distance.Reads.Learnt
      (λ _ ax ay bx by out r out'. let d = point_distance_of (point ax ay) (point bx by) in
      (r ≡ answer_code d) × (out' ≡ value_or d out.now))
  pub probe_distance_sq_lem : Says Probe.probe_distance_sq.ended ProbeProofs.probe_distance_sq.Reads.Asked
      ProbeProofs.probe_distance_sq.Reads.Learnt
      (λ _ ax ay bx by out r out'. let d = point_distance_sq_of (point ax ay) (point bx by) in
      (r ≡ answer_code d) × (out' ≡ value_or d out.now))
  pub probe_between_lem : Says Probe.probe_between.ended ProbeProofs.probe_between.Reads.Asked
      ProbeProofs.probe_between.Reads.Learnt
      (λ _ ax ay bx by r. r ≡ distance_of (point ax ay) (point bx by))
  pub probe_rapid_lem : Says Probe.probe_rapid.ended ProbeProofs.probe_rapid.Reads.Asked
      ProbeProofs.probe_rapid.Reads.Learnt
      (λ _ x y legs out r out'. let d = total_rapid_of (point x y) legs.now in
      (r ≡ answer_code d) × (out' ≡ value_or d out.now))
  pub probe_sequence_cost_lem : Says Probe.probe_sequence_cost.ended ProbeProofs.probe_sequence_cost.Reads.Asked
      ProbeProofs.probe_sequence_cost.Reads.Learnt
      (λ _ total count weight out r out'. let d = sequence_cost_of total count weight in
      (r ≡ answer_code d) × (out' ≡ value_or d out.now))
  pub probe_closest_lem : Says Probe.probe_closest.ended ProbeProofs.probe_closest.Reads.Asked
      ProbeProofs.probe_closest.Reads.Learnt
      (λ _ polygon px py x y t vertex r x' y' t' vertex'.
      let c = closest_on_polygon_of polygon.now (point px py) in
      (r ≡ closest_code c) × ((x' ≡ nearest_or c (λ n. n.point.x) x.now) ×
      ((y' ≡ nearest_or c (λ n. n.point.y) y.now) × ((t' ≡ nearest_or c (λ n. n.t) t.now) ×
      (vertex' ≡ nearest_or c (λ n. n.vertex) vertex.now)))))
  pub probe_num_contours_lem : Says Probe.probe_num_contours.ended ProbeProofs.probe_num_contours.Reads.Asked
      ProbeProofs.probe_num_contours.Reads.Learnt
      (λ _ contours pairs out r out'. let n = num_contours contours pairs.now in
      (r ≡ answer_code n) × (out' ≡ value_or n out.now))
  pub probe_violates_lem : Says Probe.probe_violates.ended ProbeProofs.probe_violates.Reads.Asked
      ProbeProofs.probe_violates.Reads.Learnt
      (λ _ contours pairs a b r. r ≡ verdict_code (violates_of contours pairs.now a b))
  pub probe_is_valid_sequence_lem : Says Probe.probe_is_valid_sequence.ended
      ProbeProofs.probe_is_valid_sequence.Reads.Asked ProbeProofs.probe_is_valid_sequence.Reads.Learnt
      (λ _ contours pairs ids r. r ≡ verdict_code (valid_sequence contours pairs.now ids.now))
  pub probe_precedences_lem : Says Probe.probe_precedences.ended ProbeProofs.probe_precedences.Reads.Asked
      ProbeProofs.probe_precedences.Reads.Learnt
      (λ _ contours pairs ids count r ids' count'. let l = precedences_of contours pairs.now in
      (r ≡ answer_code l) × ((ids' ≡ told_or l (λ x. x.ids) ids.now) ×
      (count' ≡ told_or l (λ x. x.count) count.now)))
  pub probe_predecessors_lem : Says Probe.probe_predecessors.ended ProbeProofs.probe_predecessors.Reads.Asked
      ProbeProofs.probe_predecessors.Reads.Learnt
      (λ _ contours pairs id ids count r ids' count'. let l = predecessors_of contours pairs.now id in
      (r ≡ answer_code l) × ((ids' ≡ told_or l (λ x. x.items) ids.now) ×
      (count' ≡ told_or l (λ x. x.count) count.now)))
  pub probe_successors_lem : Says Probe.probe_successors.ended ProbeProofs.probe_successors.Reads.Asked
      ProbeProofs.probe_successors.Reads.Learnt
      (λ _ contours pairs id ids count r ids' count'. let l = successors_of contours pairs.now id in
      (r ≡ answer_code l) × ((ids' ≡ told_or l (λ x. x.items) ids.now) ×
      (count' ≡ told_or l (λ x. x.count) count.now)))
  pub probe_candidate_lem : Says Probe.probe_candidate.ended ProbeProofs.probe_candidate.Reads.Asked
      ProbeProofs.probe_candidate.Reads.Learnt
      (λ _ numbers c grid kind exterior interior k place vertex way count r place' vertex' way' count'.
      let o = asked_of numbers.now c grid kind exterior interior in
      (r ≡ answer_code o) × ((place' ≡ told_or o (λ l. place_of (nth_of l k)) place.now) ×
      ((vertex' ≡ told_or o (λ l. (nth_of l k).vertex) vertex.now) ×
      ((way' ≡ told_or o (λ l. way_of (nth_of l k).direction) way.now) ×
      (count' ≡ told_or o (λ l. l.count) count.now)))))
  pub probe_topological_sort_lem : Says Probe.probe_topological_sort.ended
      ProbeProofs.probe_topological_sort.Reads.Asked ProbeProofs.probe_topological_sort.Reads.Learnt
      (λ _ contours pairs positions count r positions' count'. let o = topological_sort contours pairs.now in
      (r ≡ answer_code o) × ((positions' ≡ told_or o (λ x. x.items) positions.now) ×
      (count' ≡ told_or o (λ x. x.count) count.now)))
  pub probe_check_lem : Says Probe.probe_check.ended ProbeProofs.probe_check.Reads.Asked
      ProbeProofs.probe_check.Reads.Learnt
      (λ _ card r. r ≡ code_of (check_of card.now))
  pub probe_evaluate_lem : Says Probe.probe_evaluate.ended ProbeProofs.probe_evaluate.Reads.Asked
      ProbeProofs.probe_evaluate.Reads.Learnt
      (λ _ home table t tour r. r ≡ length_of home.now table.now t tour.now)
  pub probe_improve_lem : Says Probe.probe_improve.ended ProbeProofs.probe_improve.Reads.Asked
      ProbeProofs.probe_improve.Reads.Learnt
      (λ _ home table t owner first pairs tour passes limit r tour'.
      let chart = chart_of home.now table.now t owner.now first.now pairs.now in
      Reached r tour' (searched chart passes limit tour.now))
  pub probe_start : Says Probe.probe_start.ended ProbeProofs.probe_start.Reads.Asked
      ProbeProofs.probe_start.Reads.Learnt
      (λ _ home table t first pairs tour r tour'.
      let land = ground_of home.now table.now t first.now pairs.now in
      Written (nearest land (length tour.now)) tour.now r tour')
  pub probe_solve_nn_lem : Says Probe.probe_solve_nn.ended ProbeProofs.probe_solve_nn.Reads.Asked
      ProbeProofs.probe_solve_nn.Reads.Learnt
      (λ _ home table t first tour r tour'. let land = ground_of home.now table.now t first.now [] in
      Written (nearest land (length tour.now)) tour.now r tour')
  pub probe_distances_lem : Says Probe.probe_distances.ended ProbeProofs.probe_distances.Reads.Asked
      ProbeProofs.probe_distances.Reads.Learnt
      (λ _ card home table _ _ home' table' count'. let all = instance_of card.now in
      (home' ≡ homed all.items all.count (point_at card.now home_offset) home.now) ×
      ((table' ≡ tabled all.items all.count all.owner table.now) × (count' ≡ all.count)))

abbrev pub Claim : Type 0
Claim = OfProbe
