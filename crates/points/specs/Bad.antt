-- Which numbers and points are refused as coordinates, and where the first bad point of a list is. Assumes nothing.
use Rattle.std.specs.Prelude.{Bool, true, ◌||◌, List, ℕ, ◌*◌, ◌^◌, ltb, get_or, Float}
use Rattle.std.specs.Float.{nan, inf, fin}
use Rattle.std.specs.Float.Ieee.{up, down}
use Rattle.answer.specs.declared.Point.{Point}
use Rattle.answer.specs.Answer.{Found}
use Rattle.answer.specs.Lowest.{lowest}
use Rattle.points.specs.Points.{points, nowhere}

-- the largest size of a coordinate, in millimetres
abbrev pub largest : ℕ
largest = 2 ^ 20

-- not finite, or above the largest in size
unfoldable pub bad_number : Float → Bool
bad_number nan = true
bad_number (inf s) = true
bad_number (fin s m e) = ltb (largest * down e) (m * up e)

unfoldable pub bad_point : Point → Bool
bad_point p = bad_number p.x || bad_number p.y

-- whether point k of a flat list of numbers is bad: it is where a number of it is missing
unfoldable pub bad_at : List Float → ℕ → Bool
bad_at numbers k = bad_point (get_or (points numbers) k nowhere)

-- the first bad one of the list's first `count` points
unfoldable pub first_bad : List Float → ℕ → Found
first_bad numbers count = lowest (bad_at numbers) count
