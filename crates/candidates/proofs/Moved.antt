-- Asked for on the grid, the candidates that are found at a distance are moved, and no others. Assumes nothing.
use Rattle.std.proofs.Common.{◌≡◌, ℕ, zero, suc, min, true, false, List, [], ◌∷◌, map, refl, ap, eq-eqb, ne_eqb}
use lib.Ieee.{Float, lt}
use Rattle.answer.specs.declared.CutDirection.{CutDirection}
use Rattle.answer.specs.declared.Point.{Point}
use Rattle.fields.specs.Limits.{per_contour_limit}
use Rattle.points.specs.Numbers.{tiny}
use Rattle.grid.specs.Move.{moved_point}
use Rattle.candidates.specs.declared.Candidate.{Candidate}
use Rattle.candidates.specs.Along.{perimeter_of, spot_at}
use Rattle.candidates.specs.Generate.{candidate_at, target, moved_if, spaced, candidates_from, candidates_of}
use Rattle.candidates.specs.Moved.{to_grid, Claim}

spaced-moved : (way : CutDirection) (ps : List Point) (total : Float) (c k n : ℕ)
    → spaced true way ps total c k n ≡ map to_grid (spaced false way ps total c k n)
unfolding spaced moved_point
spaced-moved way ps total c k zero = refl
spaced-moved way ps total c k (suc n) =
    ap (λ (l : List Candidate). candidate_at way (moved_if true (spot_at ps (target total c k))) ∷ l)
    (spaced-moved way ps total c (suc k) n)

of_one : (way : CutDirection) (ps : List Point) (c : ℕ) → min c per_contour_limit ≡ 1
    → candidates_of true way ps c ≡ candidates_of false way ps c
unfolding candidates_of candidates_from
of_one way [] c e = refl
of_one way (v ∷ more) c e = rw (eq-eqb (min c per_contour_limit) 1 e)

of_no_way : (way : CutDirection) (ps : List Point) (c : ℕ) → lt (perimeter_of ps) tiny ≡ true
    → candidates_of true way ps c ≡ candidates_of false way ps c
unfolding candidates_of candidates_from
of_no_way way [] c e = refl
of_no_way way (v ∷ more) c e = rw e

of_others : (way : CutDirection) (ps : List Point) (c : ℕ) → (min c per_contour_limit ≡ 1 → ⊥)
    → lt (perimeter_of ps) tiny ≡ false → candidates_of true way ps c ≡ map to_grid (candidates_of false way ps c)
unfolding candidates_of candidates_from
of_others way [] c d e = refl
of_others way (v ∷ more) c d e =
    rw (ne_eqb (min c per_contour_limit) 1 d, e)
    (spaced-moved way (v ∷ more) (perimeter_of (v ∷ more)) (min c per_contour_limit) 0 (min c per_contour_limit))

pub claim : Claim
claim way ps c = record { of_one = of_one way ps c; of_no_way = of_no_way way ps c; of_others = of_others way ps c }
