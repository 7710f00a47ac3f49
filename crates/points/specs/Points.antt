-- How a flat list of numbers is read as points, and points as edges or legs. Assumes nothing.
use Rattle.std.specs.Prelude.{List, [], ◌∷◌, Float}
use Rattle.std.specs.Float.{nan}
use Rattle.answer.specs.declared.Point.{Point}
use Rattle.points.specs.declared.Ends.{Ends}

abbrev pub point : Float → Float → Point
point x y = record { x = x; y = y }

abbrev pub ends : Point → Point → Ends
ends a b = record { start = a; finish = b }

-- what is read where no point is: no number, so no good place
abbrev pub nowhere : Point
nowhere = point nan nan

abbrev pub no_ends : Ends
no_ends = ends nowhere nowhere

-- two numbers a point; a number left over is no point
unfoldable pub points : List Float → List Point
points [] = []
points (x ∷ []) = []
points (x ∷ y ∷ more) = point x y ∷ points more

-- from p through the points to come, and from the last of them back to the first
unfoldable pub closing : Point → Point → List Point → List Ends
closing first p [] = ends p first ∷ []
closing first p (q ∷ more) = ends p q ∷ closing first q more

-- a polygon's edges, one from each vertex, the closing one last
unfoldable pub edges : List Point → List Ends
edges [] = []
edges (p ∷ more) = closing p p more

-- two points a leg, its start and its end; a point left over is no leg
unfoldable pub legs : List Point → List Ends
legs [] = []
legs (a ∷ []) = []
legs (a ∷ b ∷ more) = ends a b ∷ legs more
