-- What is answered to those who ask for the distance of two points. Assumes nothing.
use Rattle.std.specs.Prelude.{[], ◌∷◌, Float}
use Rattle.answer.specs.declared.Point.{Point}
use Rattle.answer.specs.Answer.{Answer, Check, unless}
use Rattle.answer.specs.Stage.{first_refusal}
use Rattle.answer.specs.Lowest.{refuse_if}
use Rattle.points.specs.Bad.{bad_point}
use Rattle.points.specs.Distance.{distance_sq_of, distance_of}

-- a length, unless the check refuses
-- the first of two points is 0, the second 1; the first bad one is refused with 8
unfoldable pub two_points : Point → Point → Check
two_points a b = first_refusal (refuse_if (bad_point a) 8 0 ∷ refuse_if (bad_point b) 8 1 ∷ [])

unfoldable pub point_distance_sq_of : Point → Point → Answer Float
point_distance_sq_of a b = unless (two_points a b) (distance_sq_of a b)

unfoldable pub point_distance_of : Point → Point → Answer Float
point_distance_of a b = unless (two_points a b) (distance_of a b)
