-- The candidates of one contour, for whoever asks. Assumes nothing.
use Rattle.std.specs.Prelude.{ℕ, ◌+◌, ◌/◌, Bool, ◌||◌, List, [], ◌∷◌, length, nat_lt, Float}
use Rattle.answer.specs.Answer.{Answer, Check, unless}
use Rattle.answer.specs.declared.ContourType.{ContourType}
use Rattle.answer.specs.declared.CutDirectionPreference.{CutDirectionPreference}
use Rattle.answer.specs.Lowest.{refuse_at, refuse_if}
use Rattle.answer.specs.Stage.{or_else, first_refusal}
use Rattle.fields.specs.Limits.{per_contour_limit, vertex_limit}
use Rattle.points.specs.Points.{points}
use Rattle.points.specs.Bad.{first_bad}
use Rattle.candidates.specs.Direction.{direction_of}
use Rattle.candidates.specs.Generate.{candidates_of, Candidates, filled}

-- not from 1 to the most
abbrev pub outside : ℕ → ℕ → Bool
outside most n = nat_lt n 1 || nat_lt most n

-- of a contour: v out of range, a part point counted, is 6 at v; then the first bad vertex is 8
unfoldable pub contour_check : List Float → Check
contour_check numbers =
    let v = (length numbers + 1) / 2 in
    first_refusal (refuse_if (outside vertex_limit v) 6 v ∷ refuse_at 8 (first_bad numbers v) ∷ [])

-- c out of range is 4 at 3; then what is wrong with the contour
unfoldable pub one_contour : List Float → ℕ → Check
one_contour numbers c = or_else (refuse_if (outside per_contour_limit c) 4 3) (contour_check numbers)

-- c candidates of a contour, on the grid where that is asked for
unfoldable pub offered_of : List Float → ℕ → Bool → ContourType → CutDirectionPreference → CutDirectionPreference
    → Answer Candidates
offered_of numbers c grid kind exterior interior =
    unless (one_contour numbers c) (filled (candidates_of grid (direction_of kind exterior interior) (points numbers) c))
