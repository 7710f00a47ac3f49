-- The route of job 41 of the scope document, computed: its points are on the grid, its legs are 5, 4 and 15 mm, and the
-- interval starts at 24 mm. Assumes nothing.
use mathlib.Core.Path.{◌≡◌, refl}
use mathlib.Core.Bool.{true}
use mathlib.Core.List.{List, [], ◌∷◌}
use Prim.Native.Nat.{ℕ, ◌+◌, ◌*◌, ◌^◌}
use lib.Count.{count_trailing_zeros}
use lib.Ieee.{binary64, of_bits, of_fields, odd, size, span, climb, round, units, sum, add, sub, mul, neg}
use Rattle.answer.specs.declared.Point.{Point}
use Rattle.root.specs.Whole.{whole_root, digits, halves}
use Rattle.root.specs.Root.{sqrt_of, root_finite}
use Rattle.exact.specs.Grid.{grid_points, squared_length}
use Rattle.points.specs.Distance.{distance_of, distance_sq_of, squares as squares_of}
use Rattle.exact.specs.Length.{along_route, total, leg_root, lower_end, upper_end}
use Rattle.exact.proofs.RouteLaws.{computed, squares}

-- a point by its bits
abbrev at : ℕ → ℕ → Point
at x y = record { x = of_bits binary64 x; y = of_bits binary64 y }

abbrev home : Point
home = at 0 0

-- (3,4), (3,0), (12,12)
abbrev stops : List Point
stops = at 0x4008_0000_0000_0000 0x4010_0000_0000_0000 ∷ at 0x4008_0000_0000_0000 0
    ∷ at 0x4028_0000_0000_0000 0x4028_0000_0000_0000 ∷ []

on_the_grid : grid_points (home ∷ stops) ≡ true
unfolding grid_points of_bits of_fields odd count_trailing_zeros
on_the_grid = refl

reported : computed home stops ≡ of_bits binary64 0x4038_0000_0000_0000
unfolding along_route distance_of distance_sq_of squares_of total add sub mul neg sum of_bits of_fields odd size span climb
    round units count_trailing_zeros sqrt_of root_finite halves whole_root digits
reported = refl

exactly : lower_end (squares home stops) ≡ 24 * 2 ^ 40
unfolding along_route squared_length lower_end leg_root whole_root digits size span climb of_bits of_fields odd count_trailing_zeros
exactly = refl

to_the_next : upper_end (squares home stops) ≡ 24 * 2 ^ 40 + 3
unfolding along_route squared_length upper_end leg_root whole_root digits size span climb of_bits of_fields odd count_trailing_zeros
to_the_next = refl
