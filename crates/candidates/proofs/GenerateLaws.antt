-- Which of its cases the definition of candidates is in. Assumes nothing.
use Rattle.std.proofs.Common.{◌≡◌, ℕ, ◌/◌, min, Bool, List, [], ◌∷◌, length, get_or, refl, ◌∙◌, arith}
use lib.Ieee.{Float}
use Rattle.answer.specs.declared.Point.{Point}
use Rattle.answer.specs.declared.CutDirection.{CutDirection}
use Rattle.fields.specs.Limits.{per_contour_limit}
use Rattle.points.specs.Points.{nowhere, points}
use Rattle.points.proofs.PointLaws.{points-length}
use Rattle.candidates.specs.Generate.{candidates_from, candidates_of}

none_of : (grid : Bool) (way : CutDirection) (ps : List Point) (c : ℕ) → length ps ≡ 0 → candidates_of grid way ps c ≡ []
unfolding candidates_of
none_of grid way [] c h = refl
none_of grid way (v ∷ more) c h = absurd (omega arith)

some_of : (grid : Bool) (way : CutDirection) (ps : List Point) (c : ℕ) → (length ps ≡ 0 → ⊥)
    → candidates_of grid way ps c ≡ candidates_from grid way (get_or ps 0 nowhere) ps (min c per_contour_limit)
unfolding candidates_of
some_of grid way [] c h = absurd (h refl)
some_of grid way (v ∷ more) c h = refl

module _ (n : List Float) (grid : Bool) (way : CutDirection) (c : ℕ) where
  pub no_vertices : length n / 2 ≡ 0 → candidates_of grid way (points n) c ≡ []
  no_vertices h = none_of grid way (points n) c (points-length n ∙ h)

  pub some_vertices : (length n / 2 ≡ 0 → ⊥)
      → candidates_of grid way (points n) c
      ≡ candidates_from grid way (get_or (points n) 0 nowhere) (points n) (min c per_contour_limit)
  some_vertices h = some_of grid way (points n) c (rw points-length h)
