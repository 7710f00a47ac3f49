-- The starred candidates of the scope document's square, computed from the definition. Assumes nothing.
use Rattle.std.proofs.Common.{◌≡◌, false, [], ◌∷◌, get_or, refl}
use lib.Count.{count_trailing_zeros}
use lib.Ieee.{add, sub, mul, div, rem, neg, lt, eq, le, of_int, of_bits, of_fields, odd, size, span, climb, round}
use lib.Ieee.{units}
use lib.Ieee.{sum}
use Rattle.answer.specs.declared.CutDirection.{CutDirection}
use Rattle.root.specs.Whole.{digits, whole_root, halves}
use Rattle.root.specs.Root.{root_finite, sqrt_of}
use Rattle.points.specs.Points.{point, points, closing, edges}
use Rattle.points.specs.Distance.{squares, distance_sq_of, distance_of}
use Rattle.points.specs.Numbers.{zero64}
use Rattle.points.specs.Along.{along_of}
use Rattle.points.specs.Square.{four64, square}
use Rattle.candidates.specs.Along.{around, perimeter_of, spot, reaches, on_edge, spot_from, last_spot, spot_at}
use Rattle.candidates.specs.Generate.{candidate_at, blank, target, spaced, candidates_from, candidates_of}

-- two candidates are (0,0) at vertex 0 and (4,4) at vertex 1
pub two_of_square : (way : CutDirection)
    → candidates_of false way (points square) 2 ≡ candidate_at way (spot (point zero64 zero64) 0)
    ∷ candidate_at way (spot (point four64 four64) 1) ∷ []
unfolding candidates_of candidates_from spaced target perimeter_of around spot_at spot_from last_spot reaches on_edge points
    edges closing along_of distance_of distance_sq_of squares sqrt_of root_finite halves whole_root digits add sub mul div
    rem neg lt eq le of_int of_bits of_fields odd size span climb round units sum count_trailing_zeros
two_of_square way = refl

-- of four candidates, number 1 is (4,0) at vertex 0, not at vertex 1
pub second_of_four : (way : CutDirection)
    → get_or (candidates_of false way (points square) 4) 1 blank ≡ candidate_at way (spot (point four64 zero64) 0)
unfolding candidates_of candidates_from spaced target perimeter_of around spot_at spot_from last_spot reaches on_edge points
    edges closing along_of distance_of distance_sq_of squares sqrt_of root_finite halves whole_root digits add sub mul div
    rem neg lt eq le of_int of_bits of_fields odd size span climb round units sum count_trailing_zeros
second_of_four way = refl
