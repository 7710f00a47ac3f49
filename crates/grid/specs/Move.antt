-- The move of a coordinate to the grid of 1/1024 mm. Assumes nothing.
use Rattle.std.specs.Prelude.{ℕ, ◌+◌, ◌*◌, ◌/◌, ◌&&◌, from_bits, nat_lt, Float}
use Rattle.std.specs.Float.{nan, inf, fin, binary64}
use Rattle.std.specs.Float.Ieee.{up, down, round}
use Rattle.answer.specs.declared.Point.{Point}

-- grid units in a millimetre
abbrev pub per_mm : ℕ
per_mm = 1024

-- how many grid units the size of a number is nearest to, a half taken as a whole: half units without their fraction,
-- one more, by two
abbrev pub units_near : Float → ℕ
units_near nan = 0
units_near (inf s) = 0
units_near (fin s m e) = (m * up e * (2 * per_mm) / down e + 1) / 2

-- so many grid units with the sign of the number; no units are +0. No number and the infinities stay
unfoldable pub moved : Float → Float
unfolding round
moved nan = nan
moved (inf s) = inf s
moved (fin s m e) = round binary64 (s && nat_lt 0 (units_near (fin s m e))) (units_near (fin s m e)) per_mm

-- both coordinates of a point
unfoldable pub moved_point : Point → Point
unfolding moved
moved_point p = record { x = moved p.x; y = moved p.y }

-- ---- for the code's own steps, which the definition does without

-- 2^42: from here on every number is a whole number of grid units
abbrev pub all_on_grid : Float
all_on_grid = from_bits binary64 0x4290_0000_0000_0000
