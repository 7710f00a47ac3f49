-- The bridges of a contour, for whoever asks. Assumes nothing.
use Rattle.std.specs.Prelude.{Bool, true, false, not, ◌&&◌, ◌||◌, List, [], ◌∷◌, ◌+◌, ltb, length, get_or, Float, None, Some}
use Rattle.std.specs.Float.{nan, inf, fin, binary64}
use Rattle.std.specs.Float.Ieee.{div, lt, le, of_bits}
use Rattle.answer.specs.Answer.{Answer, Check, Found, unless}
use Rattle.answer.specs.Lowest.{lowest, refuse_at, refuse_if}
use Rattle.answer.specs.Stage.{or_else, first_refusal}
use Rattle.answer.specs.declared.Listed.{Listed}
use Rattle.answer.specs.Room.{listed}
use Rattle.points.specs.Points.{points}
use Rattle.points.specs.Numbers.{zero64, tiny}
use Rattle.candidates.specs.Along.{perimeter_of}
use Rattle.candidates.specs.Question.{contour_check}
use Rattle.bridge.specs.declared.Bridge.{Bridge}
use Rattle.bridge.specs.Limits.{bridge_limit}
use Rattle.bridge.specs.Lookup.{marks}
use Rattle.bridge.specs.Create.{bridges_at, blank}

abbrev pub two64 : Float
two64 = of_bits binary64 0x4000_0000_0000_0000

-- half of a width, rounded once
unfoldable pub half_of : Float → Float
half_of width = div binary64 width two64

abbrev pub finite : Float → Bool
finite nan = false
finite (inf s) = false
finite (fin s m e) = true

-- on a way of this length: not finite, not above 0, or its half not below the length
unfoldable pub bad_width : Float → Float → Bool
bad_width whole width = not (finite width) || (not (lt zero64 width) || not (lt (half_of width) whole))

-- not from 0 up to the length, which itself is too far; -0 is 0
unfoldable pub off_the_way : Float → Float → Bool
off_the_way whole c = not (le zero64 c && lt c whole)

-- the first centre that is off the way
unfoldable pub first_off : Float → List Float → Found
first_off whole centres = lowest (λ k. off_the_way whole (get_or centres k nan)) (length centres)

-- a place counted on by two
abbrev pub after_width : Found → Found
after_width (Some k) = Some (2 + k)
after_width None = None

-- a way under 1e-12 is 18 at 0; then the width is 18 at 1; then the first centre i off the way is 18 at 2 + i
unfoldable pub way_check : Float → Float → List Float → Check
way_check whole width centres =
    first_refusal (refuse_if (lt whole tiny) 18 0 ∷ refuse_if (bad_width whole width) 18 1
    ∷ refuse_at 18 (after_width (first_off whole centres)) ∷ [])

-- more centres than there may be are 13 at that limit; then what is wrong with the contour, 6 or 8; then 18
unfoldable pub bridge_check : List Float → Float → List Float → Check
bridge_check numbers width centres =
    or_else (refuse_if (ltb bridge_limit (length centres)) 13 bridge_limit)
    (or_else (contour_check numbers) (way_check (perimeter_of (points numbers)) width centres))

-- bridges as they are handed out
abbrev pub Bridges : Type 0
Bridges = Listed Bridge bridge_limit

unfoldable pub filled : List Bridge → Bridges
filled l = listed bridge_limit blank l

unfoldable pub bridges_of : List Float → Float → List Float → Answer Bridges
bridges_of numbers width centres =
    let ps = points numbers in
    unless (bridge_check numbers width centres) (filled (bridges_at ps (marks ps) (half_of width) centres))
