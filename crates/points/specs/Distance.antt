-- The distance of two points. Assumes nothing.
use Rattle.std.specs.Prelude.{Float}
use Rattle.std.specs.Float.{binary64}
use Rattle.std.specs.Float.Ieee.{add, sub, mul}
use Rattle.answer.specs.declared.Point.{Point}
use Rattle.root.specs.Root.{sqrt_of}

-- the sum of two squares
unfoldable pub squares : Float → Float → Float
squares dx dy = add binary64 (mul binary64 dx dx) (mul binary64 dy dy)

-- the differences, their squares, the sum: each rounded once
unfoldable pub distance_sq_of : Point → Point → Float
distance_sq_of a b = squares (sub binary64 b.x a.x) (sub binary64 b.y a.y)

-- and the root, rounded once
unfoldable pub distance_of : Point → Point → Float
distance_of a b = sqrt_of (distance_sq_of a b)
