-- What the contracts of `root`, `points`, `grid` and `cost` come to: see Contract. Assumes nothing.
use Rattle.std.specs.Prelude.{◌≡◌, get_or}
use Rattle.root.specs.Root.{sqrt_of, root_of}
use Rattle.points.specs.Points.{points, nowhere, no_ends, edges, legs}
use Rattle.points.specs.Bad.{bad_number, bad_point, first_bad}
use Rattle.points.specs.Distance.{distance_sq_of, distance_of}
use Rattle.points.specs.Along.{along_of}
use Rattle.grid.specs.Move.{moved, moved_point}
use Rattle.cost.specs.Distance.{point_distance_sq_of, point_distance_of}
use Rattle.cost.specs.Closest.{clamp_of, closest_to, closest_on_polygon_of}
use Rattle.cost.specs.Rapid.{rapid_of, total_rapid_of}
use Rattle.cost.specs.Sequence.{sequence_cost_of}
use Rattle.root.specs.contracts as Root
use Rattle.root.proofs as RootProofs
use Rattle.points.specs.contracts as Points
use Rattle.points.proofs as PointsProofs
use Rattle.grid.specs.contracts as Grid
use Rattle.grid.proofs as GridProofs
use Rattle.cost.specs.contracts as Cost
use Rattle.cost.proofs as CostProofs
use Rattle.contracts.specs.Contract.{Says}

-- root
pub record OfRoot : Type 0 where
  pub sqrt : Says Root.sqrt.ended RootProofs.sqrt.Reads.Asked RootProofs.sqrt.Reads.Learnt (λ _ x r. r ≡ sqrt_of x)
  pub root : Says Root.root.ended RootProofs.root.Reads.Asked RootProofs.root.Reads.Learnt (λ _ x r. r ≡ root_of x)

-- points
pub record OfPoints : Type 0 where
  pub bad_number_lem : Says Points.bad_number.ended PointsProofs.bad_number.Reads.Asked
      PointsProofs.bad_number.Reads.Learnt
      (λ _ x r. r ≡ bad_number x)
  pub bad_point_lem : Says Points.bad_point.ended PointsProofs.bad_point.Reads.Asked
      PointsProofs.bad_point.Reads.Learnt
      (λ _ p r. r ≡ bad_point p)
  pub point_at : Says Points.point_at.ended PointsProofs.point_at.Reads.Asked PointsProofs.point_at.Reads.Learnt
      (λ _ numbers k r. r ≡ get_or (points numbers.now) k nowhere)
  pub edge_at : Says Points.edge_at.ended PointsProofs.edge_at.Reads.Asked PointsProofs.edge_at.Reads.Learnt
      (λ _ numbers i r. r ≡ get_or (edges (points numbers.now)) i no_ends)
  pub first_bad_lem : Says Points.first_bad.ended PointsProofs.first_bad.Reads.Asked
      PointsProofs.first_bad.Reads.Learnt
      (λ _ numbers count r. r ≡ first_bad numbers.now count)
  pub distance_sq_lem : Says Points.distance_sq.ended PointsProofs.distance_sq.Reads.Asked
      PointsProofs.distance_sq.Reads.Learnt
      (λ _ a b r. r ≡ distance_sq_of a b)
  pub distance : Says Points.distance.ended PointsProofs.distance.Reads.Asked PointsProofs.distance.Reads.Learnt
      (λ _ a b r. r ≡ distance_of a b)
  pub along : Says Points.along.ended PointsProofs.along.Reads.Asked PointsProofs.along.Reads.Learnt
      (λ _ e t r. r ≡ along_of e t)

-- grid
pub record OfGrid : Type 0 where
  pub moved : Says Grid.moved.ended GridProofs.moved.Reads.Asked GridProofs.moved.Reads.Learnt (λ _ x r. r ≡ moved x)
  pub moved_point_lem : Says Grid.moved_point.ended GridProofs.moved_point.Reads.Asked
      GridProofs.moved_point.Reads.Learnt
      (λ _ p r. r ≡ moved_point p)

-- cost
pub record OfCost : Type 0 where
  pub point_distance_sq : Says Cost.point_distance_sq.ended CostProofs.point_distance_sq.Reads.Asked
      CostProofs.point_distance_sq.Reads.Learnt
      (λ _ a b r. r ≡ point_distance_sq_of a b)
  pub point_distance : Says Cost.point_distance.ended CostProofs.point_distance.Reads.Asked
      CostProofs.point_distance.Reads.Learnt
      (λ _ a b r. r ≡ point_distance_of a b)
  pub clamp : Says Cost.clamp.ended CostProofs.clamp.Reads.Asked CostProofs.clamp.Reads.Learnt
      (λ _ t r. r ≡ clamp_of t)
  pub closest_to_lem : Says Cost.closest_to.ended CostProofs.closest_to.Reads.Asked CostProofs.closest_to.Reads.Learnt
      (λ _ polygon p r. r ≡ closest_to p (points polygon.now))
  pub closest_point_on_polygon : Says Cost.closest_point_on_polygon.ended
      CostProofs.closest_point_on_polygon.Reads.Asked CostProofs.closest_point_on_polygon.Reads.Learnt
      (λ _ polygon p r. r ≡ closest_on_polygon_of polygon.now p)
  pub rapid_distance_lem : Says Cost.rapid_distance.ended CostProofs.rapid_distance.Reads.Asked
      CostProofs.rapid_distance.Reads.Learnt
      (λ _ home numbers r. r ≡ rapid_of home (legs (points numbers.now)))
  pub total_rapid_distance_lem : Says Cost.total_rapid_distance.ended CostProofs.total_rapid_distance.Reads.Asked
      CostProofs.total_rapid_distance.Reads.Learnt
      (λ _ home numbers r. r ≡ total_rapid_of home numbers.now)
  pub sequence_cost_lem : Says Cost.sequence_cost.ended CostProofs.sequence_cost.Reads.Asked
      CostProofs.sequence_cost.Reads.Learnt
      (λ _ total count weight r. r ≡ sequence_cost_of total count weight)

abbrev pub Claim : Type 0
Claim = OfRoot × OfPoints × OfGrid × OfCost
