-- What the contracts of the search's crates and of `bridge` come to: see Contract. Assumes nothing.
use Rattle.std.specs.Prelude.{◌≡◌, [], get_or, length}
use Rattle.points.specs.Points.{points}
use Rattle.candidates.specs.Direction.{direction_of}
use Rattle.candidates.specs.Along.{edge_length, perimeter_of, reaches, last_spot, spot_at}
use Rattle.candidates.specs.Generate.{candidates_of, filled}
use Rattle.candidates.specs.Question.{contour_check, offered_of}
use Rattle.bridge.specs.Question.{bridges_of}
use Rattle.std.specs.Float.{nan}
use Rattle.table.specs.Evaluate.{home_at, distance_at, length_of}
use Rattle.table.specs.Distances.{homed, tabled}
use Rattle.start.specs.Nearest.{nearest}
use Rattle.start.specs.Code.{ground_on, Written}
use Rattle.improve.specs.Search.{searched}
use Rattle.improve.specs.Code.{Reached, charted}
use Rattle.instance.specs.Room.{instance_of}
use Rattle.instance.specs.Prepared.{prepared_of}
use Rattle.solve.specs.Solve.{end_in, Solved}
use Rattle.candidates.specs.contracts as Candidates
use Rattle.candidates.proofs as CandidatesProofs
use Rattle.bridge.specs.contracts as Bridge
use Rattle.bridge.proofs as BridgeProofs
use Rattle.table.specs.contracts as Table
use Rattle.table.proofs as TableProofs
use Rattle.start.specs.contracts as Start
use Rattle.start.proofs as StartProofs
use Rattle.improve.specs.contracts as Improve
use Rattle.improve.proofs as ImproveProofs
use Rattle.instance.specs.contracts as Instance
use Rattle.instance.proofs as InstanceProofs
use Rattle.solve.specs.contracts as Solve
use Rattle.solve.proofs as SolveProofs
use Rattle.contracts.specs.Contract.{Says}

-- candidates
pub record OfCandidates : Type 0 where
  pub determine_direction_lem : Says Candidates.determine_direction.ended
      CandidatesProofs.determine_direction.Reads.Asked CandidatesProofs.determine_direction.Reads.Learnt
      (λ _ kind exterior interior r. r ≡ direction_of kind exterior interior)
  pub length_of_lem : Says Candidates.length_of.ended CandidatesProofs.length_of.Reads.Asked
      CandidatesProofs.length_of.Reads.Learnt
      (λ _ e r. r ≡ edge_length e)
  pub perimeter : Says Candidates.perimeter.ended CandidatesProofs.perimeter.Reads.Asked
      CandidatesProofs.perimeter.Reads.Learnt
      (λ _ numbers r. r ≡ perimeter_of (points numbers.now))
  pub on_the_way_lem : Says Candidates.on_the_way.ended CandidatesProofs.on_the_way.Reads.Asked
      CandidatesProofs.on_the_way.Reads.Learnt
      (λ _ d before after r. r ≡ reaches d before after)
  pub last_spot_lem : Says Candidates.last_spot.ended CandidatesProofs.last_spot.Reads.Asked
      CandidatesProofs.last_spot.Reads.Learnt
      (λ _ numbers r. r ≡ last_spot (points numbers.now))
  pub spot_at_lem : Says Candidates.spot_at.ended CandidatesProofs.spot_at.Reads.Asked
      CandidatesProofs.spot_at.Reads.Learnt
      (λ _ numbers d r. r ≡ spot_at (points numbers.now) d)
  pub candidates_of_lem : Says Candidates.candidates_of.ended CandidatesProofs.candidates_of.Reads.Asked
      CandidatesProofs.candidates_of.Reads.Learnt
      (λ _ numbers c grid kind exterior interior r.
      r ≡ filled (candidates_of grid (direction_of kind exterior interior) (points numbers.now) c))
  pub contour_check_lem : Says Candidates.contour_check.ended CandidatesProofs.contour_check.Reads.Asked
      CandidatesProofs.contour_check.Reads.Learnt
      (λ _ numbers r. r ≡ contour_check numbers.now)
  pub contour_candidates_lem : Says Candidates.contour_candidates.ended CandidatesProofs.contour_candidates.Reads.Asked
      CandidatesProofs.contour_candidates.Reads.Learnt
      (λ _ numbers c grid kind exterior interior r. r ≡ offered_of numbers.now c grid kind exterior interior)

-- bridge
pub record OfBridge : Type 0 where
  pub bridges_at_lem : Says Bridge.bridges_at.ended BridgeProofs.bridges_at.Reads.Asked
      BridgeProofs.bridges_at.Reads.Learnt
      (λ _ numbers width centres r. r ≡ bridges_of numbers.now width centres.now)

-- table
pub record OfTable : Type 0 where
  pub float_at : Says Table.float_at.ended TableProofs.float_at.Reads.Asked TableProofs.float_at.Reads.Learnt
      (λ _ s i r. r ≡ get_or s.now i nan)
  pub byte_at_lem : Says Table.byte_at.ended TableProofs.byte_at.Reads.Asked TableProofs.byte_at.Reads.Learnt
      (λ _ s i r. r ≡ get_or s.now i 0)
  pub home_at_lem : Says Table.Distances.home_at.ended TableProofs.Distances.home_at.Reads.Asked
      TableProofs.Distances.home_at.Reads.Learnt
      (λ _ all a r. r ≡ home_at all.now.home.now a)
  pub distance_at_lem : Says Table.Distances.distance_at.ended TableProofs.Distances.distance_at.Reads.Asked
      TableProofs.Distances.distance_at.Reads.Learnt
      (λ _ all a b r. r ≡ distance_at all.now.table.now all.now.count a b)
  pub evaluate_solution_lem : Says Table.Distances.evaluate_solution.ended
      TableProofs.Distances.evaluate_solution.Reads.Asked TableProofs.Distances.evaluate_solution.Reads.Learnt
      (λ _ all tour r. r ≡ length_of all.now.home.now all.now.table.now all.now.count tour.now)
  pub fill_table_lem : Says Table.fill_table.ended TableProofs.fill_table.Reads.Asked
      TableProofs.fill_table.Reads.Learnt
      (λ _ room items t owner _ room'. room' ≡ tabled items t owner.now room.now)
  pub fill_home_lem : Says Table.fill_home.ended TableProofs.fill_home.Reads.Asked TableProofs.fill_home.Reads.Learnt
      (λ _ room items t home _ room'. room' ≡ homed items t home room.now)

-- start
pub record OfStart : Type 0 where
  pub nn_constrained_lem : Says Start.nn_constrained.ended StartProofs.nn_constrained.Reads.Asked
      StartProofs.nn_constrained.Reads.Learnt
      (λ _ distances first pairs tour r tour'. let land = ground_on distances.now first.now pairs.now in
      Written (nearest land (length tour.now)) tour.now r tour')
  pub solve_nn_lem : Says Start.solve_nn.ended StartProofs.solve_nn.Reads.Asked StartProofs.solve_nn.Reads.Learnt
      (λ _ distances first tour r tour'. let land = ground_on distances.now first.now [] in
      Written (nearest land (length tour.now)) tour.now r tour')

-- improve
pub record OfImprove : Type 0 where
  pub improve : Says Improve.improve.ended ImproveProofs.improve.Reads.Asked ImproveProofs.improve.Reads.Learnt
      (λ _ chart tour passes limit r tour'. Reached r tour' (searched (charted chart.now) passes limit tour.now))

-- instance
pub record OfInstance : Type 0 where
  pub gather : Says Instance.gather.ended InstanceProofs.gather.Reads.Asked InstanceProofs.gather.Reads.Learnt
      (λ _ card r. r ≡ instance_of card.now)
  pub prepare : Says Instance.prepare.ended InstanceProofs.prepare.Reads.Asked InstanceProofs.prepare.Reads.Learnt
      (λ _ card r. r ≡ prepared_of card.now)

-- solve
pub record OfSolve : Type 0 where
  pub solve_constrained_lem : Says Solve.solve_constrained.ended SolveProofs.solve_constrained.Reads.Asked
      SolveProofs.solve_constrained.Reads.Learnt
      (λ _ chart tour passes limit r tour'. let read = charted chart.now in
      Solved read (end_in read (length tour.now) passes limit) tour.now r tour')

abbrev pub Claim : Type 0
Claim = OfCandidates × OfBridge × OfTable × OfStart × OfImprove × OfInstance × OfSolve
