-- The length of all moves between cuts: from home to the first start, then from each end to the next start. Assumes
-- nothing.
use Rattle.std.specs.Prelude.{◌+◌, ◌*◌, ◌/◌, List, [], ◌∷◌, length, from_bits, Float, None, Some}
use Rattle.std.specs.Float.{binary64}
use Rattle.std.specs.Float.Ieee.{add}
use Rattle.answer.specs.declared.Point.{Point}
use Rattle.answer.specs.Answer.{Answer, Check, Found, unless}
use Rattle.answer.specs.Lowest.{refuse_at, refuse_if}
use Rattle.answer.specs.Stage.{first_refusal}
use Rattle.points.specs.declared.Ends.{Ends}
use Rattle.points.specs.Points.{points, legs}
use Rattle.points.specs.Bad.{bad_point, first_bad}
use Rattle.points.specs.Distance.{distance_of}

-- the sum so far, from where the head stands, through the legs to come
unfoldable pub onward : Float → Point → List Ends → Float
onward total p [] = total
onward total p (leg ∷ more) = onward (add binary64 total (distance_of p leg.start)) leg.finish more

-- left to right from the home distance; no legs is +0
unfoldable pub rapid_of : Point → List Ends → Float
rapid_of home [] = from_bits binary64 0
rapid_of home (leg ∷ more) = onward (distance_of home leg.start) leg.finish more

-- a place counted on by one
abbrev pub after_home : Found → Found
after_home (Some k) = Some (k + 1)
after_home None = None

-- home is point 0, leg k's start 1 + 2k and its end 2 + 2k; a leg begun counts with both its points
unfoldable pub home_and_legs : Point → List Float → Check
home_and_legs home numbers =
    first_refusal (refuse_if (bad_point home) 8 0
    ∷ refuse_at 8 (after_home (first_bad numbers (2 * ((length numbers + 3) / 4)))) ∷ [])

unfoldable pub total_rapid_of : Point → List Float → Answer Float
total_rapid_of home numbers = unless (home_and_legs home numbers) (rapid_of home (legs (points numbers)))
