-- Which candidates are moved to the grid, and what of them, in words: asked for, every one that is found at a distance,
-- the first too, its point and its end point, and nothing else of it; not the one candidate of c = 1, nor that of a
-- way under 1e-12. Assumes nothing.
use Rattle.std.specs.Prelude.{◌≡◌, ℕ, min, true, false, List, map, ◌≢◌}
use Rattle.std.specs.Float.Ieee.{lt}
use Rattle.answer.specs.declared.CutDirection.{CutDirection}
use Rattle.answer.specs.declared.Point.{Point}
use Rattle.fields.specs.Limits.{per_contour_limit}
use Rattle.points.specs.Numbers.{tiny}
use Rattle.grid.specs.Move.{moved}
use Rattle.candidates.specs.declared.Candidate.{Candidate}
use Rattle.candidates.specs.Along.{perimeter_of}
use Rattle.candidates.specs.Generate.{candidates_of}

-- a candidate brought to the grid: its four coordinates are moved, its vertex and its direction are as found
abbrev pub to_grid : Candidate → Candidate
to_grid q =
    record {
      x = moved q.x;
      y = moved q.y;
      end_x = moved q.end_x;
      end_y = moved q.end_y;
      vertex = q.vertex;
      direction = q.direction;
    }

-- the candidates asked for on the grid, by those found without asking
pub record Moving (way : CutDirection) (ps : List Point) (c : ℕ) : Type 0 where
  pub of_one : min c per_contour_limit ≡ 1 → candidates_of true way ps c ≡ candidates_of false way ps c
  pub of_no_way : lt (perimeter_of ps) tiny ≡ true → candidates_of true way ps c ≡ candidates_of false way ps c
  pub of_others : (min c per_contour_limit ≢ 1) → lt (perimeter_of ps) tiny ≡ false
      → candidates_of true way ps c ≡ map to_grid (candidates_of false way ps c)

abbrev pub Claim : Type 0
Claim = (way : CutDirection) (ps : List Point) (c : ℕ) → Moving way ps c
