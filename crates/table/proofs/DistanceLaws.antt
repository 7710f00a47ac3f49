-- What the distances say of two candidates, and of a candidate and home. Assumes nothing.
use mathlib.Core.List.{List}
use mathlib.Core.Path.{◌≡◌, ◌∙◌}
use Prim.Native.Nat.{ℕ, ◌*◌, ◌<◌}
use native.Mathlib.Nat.{zero-add}
use borrow.Author.Tests.{eq-eqb, ne_eqb}
use lib.Ieee.{nan}
use lib.ListN.{length, get_or}
use Rattle.answer.specs.declared.Point.{Point}
use Rattle.candidates.specs.declared.Candidate.{Candidate}
use Rattle.points.specs.Numbers.{huge}
use Rattle.points.specs.Distance.{distance_of}
use Rattle.table.specs.Evaluate.{home_at, distance_at}
use Rattle.table.specs.Distances.{absent, pierced, leaving, leg_of, leg_at, row_of, distances_of, home_leg, homes_of}
use Rattle.table.proofs.FillLaws.{listed-length, listed_at, chained-length, chained-at}

pub row-length : (cs : List Candidate) (owner : List ℕ) (t a : ℕ) → length (row_of cs owner t a) ≡ t
unfolding row_of
row-length cs owner t a = listed-length (leg_at cs owner a) t 0

pub distances-length : (cs : List Candidate) (owner : List ℕ) → length (distances_of cs owner) ≡ length cs * length cs
unfolding distances_of
distances-length cs owner =
    chained-length (row_of cs owner (length cs)) (length cs) (row-length cs owner (length cs)) (length cs) 0

module _ (cs : List Candidate) (owner : List ℕ) (a b : ℕ) (here : a < length cs) (there : b < length cs) where
  -- the entry for a and b is the way from a to b
  pub distances-at : distance_at (distances_of cs owner) (length cs) a b ≡ leg_at cs owner a b
  unfolding distances_of row_of
  distances-at =
      chained-at (row_of cs owner (length cs)) (length cs) (row-length cs owner (length cs)) (length cs) 0 a b nan here
      there
      ∙ rw zero-add (listed_at (leg_at cs owner a) (length cs) 0 b nan there ∙ rw zero-add)

  -- which is the largest float within one contour
  pub same_contour : get_or owner a 0 ≡ get_or owner b 0 → distance_at (distances_of cs owner) (length cs) a b ≡ huge
  unfolding leg_at leg_of
  same_contour same = rw (distances-at, eq-eqb (get_or owner a 0) (get_or owner b 0) same)

  -- and else the distance from where a's cut ends to where b is pierced
  pub other_contour : (get_or owner a 0 ≡ get_or owner b 0 → ⊥) →
      distance_at (distances_of cs owner) (length cs) a b
      ≡ distance_of (leaving (get_or cs a absent)) (pierced (get_or cs b absent))
  unfolding leg_at leg_of
  other_contour other = rw (distances-at, ne_eqb (get_or owner a 0) (get_or owner b 0) other)

pub homes_length : (cs : List Candidate) (home : Point) → length (homes_of cs home) ≡ length cs
unfolding homes_of
homes_length cs home = listed-length (home_leg cs home) (length cs) 0

pub homes_at : (cs : List Candidate) (home : Point) (a : ℕ) → a < length cs
    → home_at (homes_of cs home) a ≡ distance_of home (pierced (get_or cs a absent))
unfolding homes_of home_leg
homes_at cs home a here = listed_at (home_leg cs home) (length cs) 0 a nan here ∙ rw zero-add
