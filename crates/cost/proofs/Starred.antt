-- The starred closest point of the scope document, computed from the definition. Assumes nothing.
use Rattle.std.specs.Prelude.{Ok, Some}
use Rattle.std.proofs.Common.{◌≡◌, refl}
use lib.Ieee.{Float, binary64, add, sub, mul, div, neg, lt, of_bits, of_fields, odd, size, span, climb, round, units, sum}
use lib.Count.{count_trailing_zeros}
use Rattle.answer.specs.Stage.{first_refusal}
use Rattle.answer.specs.Lowest.{lowest, lowest_from}
use Rattle.points.specs.Points.{point, points, closing, edges}
use Rattle.points.specs.Bad.{bad_number, bad_point, bad_at, first_bad}
use Rattle.points.specs.Distance.{squares, distance_sq_of}
use Rattle.points.specs.Along.{along_of}
use Rattle.points.specs.Numbers.{zero64}
use Rattle.points.specs.Square.{square}
use Rattle.cost.specs.Closest.{clamp_of, foot_of, closer_of, closest_from, closest_to, polygon_and_point}
use Rattle.cost.specs.Closest.{closest_on_polygon_of}

abbrev two64 : Float
two64 = of_bits binary64 0x4000_0000_0000_0000

abbrev half64 : Float
half64 = of_bits binary64 0x3fe0_0000_0000_0000

-- closest to (2,2) is (2,0), on edge 0, halfway along
pub closest_of_square : closest_on_polygon_of square (point two64 two64)
    ≡ Ok (Some (record { point = point two64 zero64; vertex = 0; t = half64 }))
unfolding closest_on_polygon_of polygon_and_point first_refusal first_bad lowest lowest_from bad_at bad_point bad_number points
    closest_to edges closing closest_from closer_of clamp_of foot_of along_of distance_sq_of squares add sub mul div neg lt
    of_bits of_fields odd size span climb round units sum count_trailing_zeros
closest_of_square = refl
