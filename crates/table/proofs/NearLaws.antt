-- Candidates that are not too far out have distances below the largest float, so that a start finds each of them.
-- Assumes nothing.
use mathlib.Core.Bool.{true}
use mathlib.Core.List.{List}
use mathlib.Core.Path.{◌≡◌}
use Prim.Native.Nat.{ℕ, ◌≤◌, ◌<◌}
use lib.Ieee.{lt}
use lib.ListN.{length, get_or}
use Rattle.answer.specs.declared.Point.{Point}
use Rattle.candidates.specs.declared.Candidate.{Candidate}
use Rattle.points.proofs.SizeLaws.{Near, distance_below}
use Rattle.points.specs.Numbers.{huge}
use Rattle.table.specs.Evaluate.{home_at, distance_at}
use Rattle.table.specs.Distances.{absent, pierced, leaving, distances_of, homes_of}
use Rattle.table.proofs.DistanceLaws.{other_contour, homes_at}

-- the points of every candidate are below 2^k in size
pub record AllNear (k : ℕ) (cs : List Candidate) : Type 0 where
  pub starts : (a : ℕ) → a < length cs → Near k (pierced (get_or cs a absent))
  pub ends : (a : ℕ) → a < length cs → Near k (leaving (get_or cs a absent))

module _ (k : ℕ) (cs : List Candidate) (small : k ≤ 400) (near : AllNear k cs) where
  -- between candidates of two contours
  pub distances_below : (owner : List ℕ) (a b : ℕ) → a < length cs → b < length cs
      → (get_or owner a 0 ≡ get_or owner b 0 → ⊥)
      → lt (distance_at (distances_of cs owner) (length cs) a b) huge ≡ true
  distances_below owner a b here there other =
      rw (other_contour cs owner a b here there other)
      (distance_below k (leaving (get_or cs a absent)) (pierced (get_or cs b absent)) small (near.ends a here)
      (near.starts b there))

  -- and from home
  pub homes_below : (home : Point) (a : ℕ) → a < length cs → Near k home → lt (home_at (homes_of cs home) a) huge ≡ true
  homes_below home a here at =
      rw (homes_at cs home a here) (distance_below k home (pierced (get_or cs a absent)) small at (near.starts a here))
