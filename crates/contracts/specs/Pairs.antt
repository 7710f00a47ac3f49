-- What the contracts of `closure`, `keep` and `hierarchy` come to: see Contract. Assumes nothing.
use Rattle.std.specs.Prelude.{◌≡◌}
use Rattle.closure.specs.Cycle.{first_on_cycle}
use Rattle.keep.specs.Keep.{kept_at, keeps_pairs, ready_in}
use Rattle.hierarchy.specs.Questions.{num_contours, precedences_of, violates_of, predecessors_of, successors_of}
use Rattle.hierarchy.specs.Questions.{valid_sequence, topological_sort}
use Rattle.closure.specs.contracts as Closure
use Rattle.closure.proofs as ClosureProofs
use Rattle.keep.specs.contracts as Keep
use Rattle.keep.proofs as KeepProofs
use Rattle.hierarchy.specs.contracts as Hierarchy
use Rattle.hierarchy.proofs as HierarchyProofs
use Rattle.contracts.specs.Contract.{Says}

-- closure
pub record OfClosure : Type 0 where
  pub first_on_cycle_lem : Says Closure.first_on_cycle.ended ClosureProofs.first_on_cycle.Reads.Asked
      ClosureProofs.first_on_cycle.Reads.Learnt
      (λ _ contours pairs r. r ≡ first_on_cycle contours pairs.now)
  pub first_on_cycle_wide : Says Closure.first_on_cycle_wide.ended ClosureProofs.first_on_cycle_wide.Reads.Asked
      ClosureProofs.first_on_cycle_wide.Reads.Learnt
      (λ _ contours pairs r. r ≡ first_on_cycle contours pairs.now)

-- keep
pub record OfKeep : Type 0 where
  pub kept_at_lem : Says Keep.kept_at.ended KeepProofs.kept_at.Reads.Asked KeepProofs.kept_at.Reads.Learnt
      (λ _ b a r. r ≡ kept_at b a)
  pub keeps_pairs_lem : Says Keep.keeps_pairs.ended KeepProofs.keeps_pairs.Reads.Asked
      KeepProofs.keeps_pairs.Reads.Learnt
      (λ _ order pairs r. r ≡ keeps_pairs order.now pairs.now)
  pub is_ready_lem : Says Keep.is_ready.ended KeepProofs.is_ready.Reads.Asked KeepProofs.is_ready.Reads.Learnt
      (λ _ visited pairs k r. r ≡ ready_in visited.now pairs.now k)

-- hierarchy
pub record OfHierarchy : Type 0 where
  pub num_contours_lem : Says Hierarchy.num_contours.ended HierarchyProofs.num_contours.Reads.Asked
      HierarchyProofs.num_contours.Reads.Learnt
      (λ _ contours pairs r. r ≡ num_contours contours pairs.now)
  pub precedences : Says Hierarchy.precedences.ended HierarchyProofs.precedences.Reads.Asked
      HierarchyProofs.precedences.Reads.Learnt
      (λ _ contours pairs r. r ≡ precedences_of contours pairs.now)
  pub violates : Says Hierarchy.violates.ended HierarchyProofs.violates.Reads.Asked
      HierarchyProofs.violates.Reads.Learnt
      (λ _ contours pairs a b r. r ≡ violates_of contours pairs.now a b)
  pub predecessors : Says Hierarchy.predecessors.ended HierarchyProofs.predecessors.Reads.Asked
      HierarchyProofs.predecessors.Reads.Learnt
      (λ _ contours pairs id r. r ≡ predecessors_of contours pairs.now id)
  pub successors : Says Hierarchy.successors.ended HierarchyProofs.successors.Reads.Asked
      HierarchyProofs.successors.Reads.Learnt
      (λ _ contours pairs id r. r ≡ successors_of contours pairs.now id)
  pub is_valid_sequence_lem : Says Hierarchy.is_valid_sequence.ended HierarchyProofs.is_valid_sequence.Reads.Asked
      HierarchyProofs.is_valid_sequence.Reads.Learnt
      (λ _ contours pairs ids r. r ≡ valid_sequence contours pairs.now ids.now)
  pub topological_sort_lem : Says Hierarchy.topological_sort.ended HierarchyProofs.topological_sort.Reads.Asked
      HierarchyProofs.topological_sort.Reads.Learnt
      (λ _ contours pairs r. r ≡ topological_sort contours pairs.now)

abbrev pub Claim : Type 0
Claim = OfClosure × OfKeep × OfHierarchy
