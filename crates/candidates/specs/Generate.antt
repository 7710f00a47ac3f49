-- The candidates of a contour: where on its boundary, or on the grid beside it, the beam may pierce. Assumes nothing.
use Rattle.std.specs.Prelude.{ℕ, zero, suc, min, Bool, cond, List, [], ◌∷◌, pos, ◌==◌}
use Rattle.std.specs.Prelude.{Float}
use Rattle.std.specs.Float.{binary64}
use Rattle.std.specs.Float.Ieee.{mul, div, rem, lt, of_int}
use Rattle.answer.specs.declared.Listed.{Listed}
use Rattle.answer.specs.declared.Point.{Point}
use Rattle.answer.specs.declared.CutDirection.{CutDirection}
use Rattle.answer.specs.declared.CutDirection.TheVariants.{Ccw}
use Rattle.answer.specs.Room.{listed}
use Rattle.fields.specs.Limits.{per_contour_limit}
use Rattle.points.specs.Points.{point}
use Rattle.points.specs.Numbers.{zero64, tiny}
use Rattle.grid.specs.Move.{moved_point}
use Rattle.candidates.specs.declared.Spot.{Spot}
use Rattle.candidates.specs.declared.Candidate.{Candidate}
use Rattle.candidates.specs.Along.{perimeter_of, spot, spot_at}

-- pierced at a spot and cut once around: the end point is the point
abbrev pub candidate_at : CutDirection → Spot → Candidate
candidate_at way s =
    record {
      x = s.point.x;
      y = s.point.y;
      end_x = s.point.x;
      end_y = s.point.y;
      vertex = s.vertex;
      direction = way;
    }

-- how far along the way candidate k of c is
unfoldable pub target : Float → ℕ → ℕ → Float
target total c k =
    rem binary64 (mul binary64 (of_int binary64 (pos k)) (div binary64 total (of_int binary64 (pos c)))) total

-- a spot found at a distance, moved to the grid where that is asked for: its point moves, its vertex is the one found
abbrev pub moved_if : Bool → Spot → Spot
moved_if grid s = cond grid (spot (moved_point s.point) s.vertex) s

-- the next n candidates of c, from number k on
unfoldable pub spaced : Bool → CutDirection → List Point → Float → ℕ → ℕ → ℕ → List Candidate
spaced grid way ps total c k zero = []
spaced grid way ps total c k (suc n) =
    candidate_at way (moved_if grid (spot_at ps (target total c k))) ∷ spaced grid way ps total c (suc k) n

-- of a contour whose first vertex is v: that vertex, as it is, if one is wanted or the perimeter is under 1e-12, else c
-- of them spaced evenly, on the grid where that is asked for
unfoldable pub candidates_from : Bool → CutDirection → Point → List Point → ℕ → List Candidate
candidates_from grid way v ps c =
    cond (c == 1) (candidate_at way (spot v 0) ∷ [])
    (cond (lt (perimeter_of ps) tiny) (candidate_at way (spot v 0) ∷ []) (spaced grid way ps (perimeter_of ps) c 0 c))

-- none without a vertex; more than can be held are not asked for
unfoldable pub candidates_of : Bool → CutDirection → List Point → ℕ → List Candidate
candidates_of grid way [] c = []
candidates_of grid way (v ∷ more) c = candidates_from grid way v (v ∷ more) (min c per_contour_limit)

-- what stands in the places that are not used
abbrev pub blank : Candidate
blank = candidate_at Ccw (spot (point zero64 zero64) 0)

-- a list of candidates as it is handed out
abbrev pub Candidates : Type 0
Candidates = Listed Candidate per_contour_limit

unfoldable pub filled : List Candidate → Candidates
filled l = listed per_contour_limit blank l
