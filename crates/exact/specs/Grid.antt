-- Points on the grid of 1/1024 mm, and the squared length of a leg between two of them, which is a whole number.
-- Assumes nothing.
use Rattle.std.specs.Prelude.{Bool, true, false, ◌&&◌, cond, List, [], ◌∷◌, ℕ, ◌+◌, ◌*◌, ◌/◌, ◌%◌, eqb, leb, Float}
use Rattle.std.specs.Bool.{beq}
use Rattle.std.specs.Float.{nan, inf, fin}
use Rattle.std.specs.Float.Ieee.{up, down}
use Rattle.answer.specs.declared.Point.{Point}
use Rattle.root.specs.Steps.{sign_of}
use Rattle.grid.specs.Move.{per_mm}
use Rattle.grid.specs.Words.{gap}

-- the largest size of a coordinate on the grid, in millimetres
abbrev pub reach : ℕ
reach = 8192

-- a coordinate is a whole number of grid units, and not beyond the reach
unfoldable pub on_grid : Float → Bool
on_grid nan = false
on_grid (inf s) = false
on_grid (fin s m e) = eqb (m * up e * per_mm % down e) 0 && leb (m * up e) (reach * down e)

-- both coordinates are
unfoldable pub grid_point : Point → Bool
unfolding on_grid
grid_point p = on_grid p.x && on_grid p.y

-- all points of a list are on the grid
unfoldable pub grid_points : List Point → Bool
unfolding grid_point
grid_points [] = true
grid_points (p ∷ more) = grid_point p && grid_points more

-- the size of a coordinate in grid units
abbrev pub units_of : Float → ℕ
units_of nan = 0
units_of (inf s) = 0
units_of (fin s m e) = m * up e * per_mm / down e

-- how far apart two coordinates are, in grid units: on the same side of zero their sizes' difference, else their sum
unfoldable pub apart : Float → Float → ℕ
apart x y = cond (beq (sign_of x) (sign_of y)) (gap (units_of x) (units_of y)) (units_of x + units_of y)

-- a leg's squared length S, in squares of a grid unit
unfoldable pub squared_length : Point → Point → ℕ
unfolding apart
squared_length a b = apart a.x b.x * apart a.x b.x + apart a.y b.y * apart a.y b.y
