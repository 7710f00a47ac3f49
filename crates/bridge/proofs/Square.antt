-- Bridges computed from the definition, most of them of the square of points' Square: the place on the edge is told as
-- it comes out, and each refusal of the claim, and none, is met. Assumes nothing.
use Rattle.std.specs.Prelude.{Ok}
use mathlib.Core.Path.{◌≡◌, refl}
use mathlib.Core.List.{[], ◌∷◌}
use lib.Count.{count_trailing_zeros}
use lib.ListN.{replicate}
use lib.Ieee.{Float, nan, binary64, add, sub, mul, div, rem, neg, lt, eq, le, of_bits, of_fields, odd, size, span, climb}
use lib.Ieee.{round, units, sum}
use Rattle.answer.specs.Lowest.{lowest, lowest_from}
use Rattle.answer.specs.Stage.{first_refusal}
use Rattle.root.specs.Whole.{digits, whole_root, halves}
use Rattle.root.specs.Root.{root_finite, sqrt_of}
use Rattle.points.specs.Points.{point, points, closing, edges}
use Rattle.points.specs.Bad.{bad_number, bad_point, bad_at, first_bad}
use Rattle.points.specs.Distance.{squares, distance_sq_of, distance_of}
use Rattle.points.specs.Numbers.{zero64, one64, tiny}
use Rattle.points.specs.Along.{along_of}
use Rattle.points.specs.Square.{four64, square}
use Rattle.cost.specs.Closest.{clamp_of}
use Rattle.candidates.specs.Along.{around, perimeter_of, reaches, last_spot}
use Rattle.candidates.specs.Question.{contour_check}
use Rattle.bridge.specs.Lookup.{marks_from, marks, edge_on, held_on, spot_on}
use Rattle.bridge.specs.Create.{place_on, starts_at, ends_at, bridge_at, bridges_at}
use Rattle.bridge.specs.Question.{two64, half_of, bad_width, off_the_way, first_off, way_check, bridge_check, filled}
use Rattle.bridge.specs.Question.{bridges_of}
use Rattle.bridge.specs.Words.{back}

abbrev three64 : Float
three64 = of_bits binary64 0x4008_0000_0000_0000

-- the whole way around the square, and twice that
abbrev sixteen64 : Float
sixteen64 = of_bits binary64 0x4030_0000_0000_0000

abbrev thirty_two64 : Float
thirty_two64 = of_bits binary64 0x4040_0000_0000_0000

-- half of 1e-12
abbrev half_tiny64 : Float
half_tiny64 = of_bits binary64 0x3d61_9799_812d_ea11

abbrev half64 : Float
half64 = of_bits binary64 0x3fe0_0000_0000_0000

abbrev minus_zero64 : Float
minus_zero64 = of_bits binary64 0x8000_0000_0000_0000

-- the next number above four, and above one
abbrev above-four64 : Float
above-four64 = of_bits binary64 0x4010_0000_0000_0001

abbrev above-one64 : Float
above-one64 = of_bits binary64 0x3ff0_0000_0000_0001

-- 2 wide: in the middle of an edge; at -0, from the closing edge on, with -0 as its place; and past a corner by no more
-- than the edge before it reaches: the middle is the corner, and the place is above 1
pub three_of_square : bridges_of square two64 (two64 ∷ minus_zero64 ∷ above-four64 ∷ [])
    ≡ Ok (filled
    (record {
      start = point one64 zero64;
      end = point three64 zero64;
      middle = point two64 zero64;
      edge = 0;
      t = half64;
    }
    ∷ record {
      start = point zero64 one64;
      end = point one64 zero64;
      middle = point zero64 zero64;
      edge = 0;
      t = minus_zero64;
    }
    ∷ record {
      start = point three64 zero64;
      end = point four64 (of_bits binary64 0x3ff0_0000_0000_0004);
      middle = point four64 zero64;
      edge = 0;
      t = above-one64;
    }
    ∷ []))
unfolding bridges_of bridge_check contour_check way_check first_off off_the_way bad_width half_of filled bridges_at bridge_at
    starts_at ends_at place_on spot_on held_on edge_on marks marks_from lowest lowest_from first_refusal first_bad bad_at bad_point
    bad_number points edges closing reaches last_spot clamp_of perimeter_of around along_of distance_of distance_sq_of squares
    sqrt_of root_finite halves whole_root digits add sub mul div rem neg lt eq le of_bits of_fields odd size span climb round
    units sum count_trailing_zeros
three_of_square = refl

-- an edge of just 1e-12 and back: a point is looked for along it, and its place is told as +0
pub one_of_tiny : bridges_of (zero64 ∷ zero64 ∷ tiny ∷ zero64 ∷ []) tiny (half_tiny64 ∷ [])
    ≡ Ok (filled
    (record {
      start = point zero64 zero64;
      end = point tiny zero64;
      middle = point half_tiny64 zero64;
      edge = 0;
      t = zero64;
    }
    ∷ []))
unfolding bridges_of bridge_check contour_check way_check first_off off_the_way bad_width half_of filled bridges_at bridge_at
    starts_at ends_at place_on spot_on held_on edge_on marks marks_from lowest lowest_from first_refusal first_bad bad_at bad_point
    bad_number points edges closing reaches last_spot clamp_of perimeter_of around along_of distance_of distance_sq_of squares
    sqrt_of root_finite halves whole_root digits add sub mul div rem neg lt eq le of_bits of_fields odd size span climb round
    units sum count_trailing_zeros
one_of_tiny = refl

-- seventeen centres; no vertex; a coordinate that is no number; a contour of one point; twice the whole way for a
-- width; the whole way for a centre; and no centres, which are fine
pub each_answer : (bridges_of [] zero64 (replicate 17 zero64) ≡ back 13 16) × (bridges_of [] zero64 [] ≡ back 6 0)
    × (bridges_of (zero64 ∷ zero64 ∷ nan ∷ zero64 ∷ []) zero64 [] ≡ back 8 1)
    × (bridges_of (one64 ∷ one64 ∷ []) zero64 [] ≡ back 18 0) × (bridges_of square thirty_two64 [] ≡ back 18 1)
    × (bridges_of square two64 (zero64 ∷ sixteen64 ∷ []) ≡ back 18 3) × (bridges_of square two64 [] ≡ Ok (filled []))
unfolding bridges_of bridge_check contour_check way_check first_off off_the_way bad_width half_of filled bridges_at
    lowest lowest_from first_refusal first_bad bad_at bad_point bad_number points edges closing perimeter_of around distance_of
    distance_sq_of squares sqrt_of root_finite halves whole_root digits add sub mul div neg lt eq le of_bits of_fields odd size
    span climb round units sum count_trailing_zeros
each_answer = (refl, refl, refl, refl, refl, refl, refl)
