-- Contours whose vertices are on the grid, and the claim that every spot found on one is so near the grid's reach that
-- the nearest point of the grid is within it. Assumes nothing.
use Rattle.std.specs.Prelude.{List, ℕ, ◌+◌, ◌*◌, ◌^◌, ◌≤◌, ◌<◌, T, length, get_or, Float}
use Rattle.std.specs.Float.{binary64}
use Rattle.std.specs.Float.Ieee.{fits}
use Rattle.std.specs.Float.Ieee.Scale.{finite}
use Rattle.answer.specs.declared.Point.{Point}
use Rattle.root.specs.Steps.{steps_of}
use Rattle.fields.specs.Limits.{vertex_limit}
use Rattle.points.specs.Points.{nowhere}
use Rattle.candidates.specs.Along.{spot_at}
use Rattle.grid.specs.Move.{per_mm}
use Rattle.exact.specs.Grid.{reach, grid_point}

-- a point of the grid whose coordinates are numbers of binary64
pub record Vertex (p : Point) : Type 0 where
  pub on-grid : T (grid_point p)
  pub x_held : T (fits binary64 p.x)
  pub y_held : T (fits binary64 p.y)

-- all points of a list are
abbrev pub AllVertices : List Point → Type 0
AllVertices ps = (j : ℕ) → j < length ps → Vertex (get_or ps j nowhere)

-- finite, a number of binary64, and in size less than half a grid unit beyond the reach: 2^1074 steps are a millimetre
pub record Inside (x : Float) : Type 0 where
  pub held : T (fits binary64 x)
  pub finite-one : T (finite x)
  pub within : 2 * per_mm * steps_of x < (2 * (reach * per_mm) + 1) * 2 ^ 1074

-- both coordinates are
pub record InsidePoint (p : Point) : Type 0 where
  pub x_inside : Inside p.x
  pub y_inside : Inside p.y

-- on a contour of 1 to 30 vertices, all on the grid, the spot at every distance is inside
abbrev pub SpotsInside : Type 0
SpotsInside =
    (ps : List Point) → 0 < length ps → length ps ≤ vertex_limit → AllVertices ps → (d : Float) → T (fits binary64 d)
    → InsidePoint (spot_at ps d).point
